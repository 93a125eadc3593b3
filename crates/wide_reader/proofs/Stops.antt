-- What ends a phrase: words that cannot continue it.
use Rattle.wide_reader.proofs.Prelude.{◌≡◌, List, [], ◌∷◌, inl, inr, Some, None, refl, sym, ◌∙◌, ap, subst, WideWord, mark, Mark, Question, Colon, Dot, Comma, OpenParen, CloseParen, OpenBracket, CloseBracket, CloseBrace, operator_of, operator_mark, level_of, at, operator, WideIsNotNext, WideCloses, closing_mark, WideClass, Infix, Unary, Prefixed, Member, Primary, below, Level, Or, And, Relation, Sum, Product, Closing, Call, Map, BinaryOperator}
use Rattle.wide_reader.specs.declared.closing.Closing.TheVariants.{List as ListLiteral}

-- no word continues the member; a name before a parenthesis would be a call
abbrev pub StopsMember : List WideWord → Type 0
StopsMember ws = WideIsNotNext (at Dot) ws × WideIsNotNext (at OpenBracket) ws × WideIsNotNext (at OpenParen) ws

abbrev pub StopsProduct : List WideWord → Type 0
StopsProduct ws = WideIsNotNext (operator Product) ws × (StopsMember ws)

abbrev pub StopsSum : List WideWord → Type 0
StopsSum ws = WideIsNotNext (operator Sum) ws × (StopsProduct ws)

abbrev pub StopsRelation : List WideWord → Type 0
StopsRelation ws = WideIsNotNext (operator Relation) ws × (StopsSum ws)

abbrev pub StopsAnd : List WideWord → Type 0
StopsAnd ws = WideIsNotNext (operator And) ws × (StopsRelation ws)

abbrev pub StopsOr : List WideWord → Type 0
StopsOr ws = WideIsNotNext (operator Or) ws × (StopsAnd ws)

abbrev pub StopsExpression : List WideWord → Type 0
StopsExpression ws = WideIsNotNext (at Question) ws × (StopsOr ws)

abbrev pub Stops : WideClass → List WideWord → Type 0
Stops (Infix Or) ws = StopsOr ws
Stops (Infix And) ws = StopsAnd ws
Stops (Infix Relation) ws = StopsRelation ws
Stops (Infix Sum) ws = StopsSum ws
Stops (Infix Product) ws = StopsProduct ws
Stops Unary ws = StopsMember ws
Stops (Prefixed op odd) ws = StopsMember ws
Stops Member ws = StopsMember ws
Stops Primary ws = WideIsNotNext (at OpenParen) ws
Stops _ ws = StopsExpression ws

-- an operator of one level is not one of another
other_level : (k l : Level) (w : WideWord) (ws : List WideWord) (op : BinaryOperator) → operator_of w ≡ Some op → level_of op ≡ k → (k ≡ l → ⊥) → WideIsNotNext (operator l) (w ∷ ws)
other_level k l w ws op e level differ = λ other f g. differ cc

-- an operator is not a different mark
operator_not : (m : Mark) (w : WideWord) (op : BinaryOperator) → operator_of w ≡ Some op → operator_mark m ≡ None → w ≡ mark m → ⊥
operator_not m w op e none f = let g : None ≡ Some op = sym none ∙ ap operator_of (sym f) ∙ e in cc

operator_member : (w : WideWord) (ws : List WideWord) (op : BinaryOperator) → operator_of w ≡ Some op → StopsMember (w ∷ ws)
operator_member w ws op e = (operator_not Dot w op e refl, operator_not OpenBracket w op e refl, operator_not OpenParen w op e refl)

-- an operator of the level ends its left operand
pub ends_operand : (l : Level) (w : WideWord) (ws : List WideWord) (op : BinaryOperator) → operator_of w ≡ Some op → level_of op ≡ l → Stops (below l) (w ∷ ws)
ends_operand Or w ws op e f =
    (other_level Or And w ws op e f (λ q. cc), (other_level Or Relation w ws op e f (λ q. cc), (other_level Or Sum w ws op e f (λ q. cc), (other_level Or Product w ws op e f (λ q. cc), operator_member w ws op e))))
ends_operand And w ws op e f =
    (other_level And Relation w ws op e f (λ q. cc), (other_level And Sum w ws op e f (λ q. cc), (other_level And Product w ws op e f (λ q. cc), operator_member w ws op e)))
ends_operand Relation w ws op e f = (other_level Relation Sum w ws op e f (λ q. cc), (other_level Relation Product w ws op e f (λ q. cc), operator_member w ws op e))
ends_operand Sum w ws op e f = (other_level Sum Product w ws op e f (λ q. cc), operator_member w ws op e)
ends_operand Product w ws op e f = operator_member w ws op e

no_operator : (l : Level) (m : Mark) (ws : List WideWord) → operator_mark m ≡ None → WideIsNotNext (operator l) (mark m ∷ ws)
no_operator l m ws none = λ op e f. let g : None ≡ Some op = sym none ∙ e in cc

-- a mark that is no operator and begins no suffix ends a disjunction
ends_or : (m : Mark) (ws : List WideWord) → operator_mark m ≡ None → StopsMember (mark m ∷ ws) → StopsOr (mark m ∷ ws)
ends_or m ws none member = (no_operator Or m ws none, (no_operator And m ws none, (no_operator Relation m ws none, (no_operator Sum m ws none, (no_operator Product m ws none, member)))))

pub ends_question : (ws : List WideWord) → StopsOr (mark Question ∷ ws)
ends_question ws = ends_or Question ws refl ((λ e. cc), (λ e. cc), (λ e. cc))

pub ends_colon : (ws : List WideWord) → StopsExpression (mark Colon ∷ ws)
ends_colon ws = ((λ e. cc), ends_or Colon ws refl ((λ e. cc), (λ e. cc), (λ e. cc)))

pub ends_comma : (ws : List WideWord) → StopsExpression (mark Comma ∷ ws)
ends_comma ws = ((λ e. cc), ends_or Comma ws refl ((λ e. cc), (λ e. cc), (λ e. cc)))

pub ends_closing : (c : Closing) (ws : List WideWord) → StopsExpression (mark (closing_mark c) ∷ ws)
ends_closing Call ws = ((λ e. cc), ends_or CloseParen ws refl ((λ e. cc), (λ e. cc), (λ e. cc)))
ends_closing ListLiteral ws = ((λ e. cc), ends_or CloseBracket ws refl ((λ e. cc), (λ e. cc), (λ e. cc)))
ends_closing Map ws = ((λ e. cc), ends_or CloseBrace ws refl ((λ e. cc), (λ e. cc), (λ e. cc)))

-- the end of a list ends its last item
pub ends_list : (c : Closing) (ws rest : List WideWord) → WideCloses c ws rest → StopsExpression ws
ends_list c ws rest (inl e) = subst (λ (x : List WideWord). StopsExpression x) (sym e) (ends_closing c rest)
ends_list c ws rest (inr p) = subst (λ (x : List WideWord). StopsExpression x) (sym p.1) (ends_comma (mark (closing_mark c) ∷ rest))

pub ends_all : StopsExpression []
ends_all = (tt, (tt, (tt, (tt, (tt, (tt, (tt, tt, tt)))))))
