-- The steps of the reader, and their outcomes.
use Rattle.std.specs.Prelude.{◌≡◌, ℕ, zero, suc, List, [], ◌∷◌, ◌++◌, length, Bool, true, false, not, Option, None, Some, Result, Ok, Err}
use Rattle.std.proofs.Common.{refl}
use Rattle.wide_tokens.specs.Token.{WideWord, mark}
use Rattle.cel_tokens.specs.declared.mark.Mark.{Mark, TheVariants.CloseBracket, TheVariants.OpenBrace}
use Rattle.cel_tokens.specs.declared.mark.Mark.TheVariants.{Question, Colon, Dot, Comma, Not, Minus, OpenParen, CloseParen, OpenBracket}
use Rattle.cel_reader.specs.Words.{is_identifier, is_selector, unary_mark}
use Rattle.cel_reader.specs.declared.operator.UnaryOperator.TheVariants as unary
use Rattle.wide_reader.specs.Tree as tree
use Rattle.wide_reader.specs.Tree.{Wide, wides, items, entries}
use Rattle.wide_reader.specs.Grammar.{WideClass, Expression, Infix, Unary, Prefixed, Member, Primary, WidePhrase, One, Many, Listed, Keyed, below, applied}
use Rattle.wide_reader.specs.Forms.{method_of, call_of}
use Rattle.wide_reader.specs.Look.{WideLook, at, in_literal, named, back_quoted, constant, operator, WideFoundBy, WideIs, WideIsNotNext, opens_mark, closing_mark}
use Rattle.wide_reader.specs.declared.level.Level.{Level, TheVariants.Or}
use Rattle.wide_reader.specs.declared.closing.Closing.{Closing}
use Rattle.wide_reader.specs.declared.closing.Closing.TheVariants.{Call, List as ListLiteral, Map}
use Rattle.wide_reader.specs.declared.wide.Access.{Access, TheVariants.Plain, TheVariants.Optional}
use Rattle.wide_reader.specs.declared.refusal.Refusal.{Refusal}
use Rattle.wide_reader.specs.declared.refusal.Refusal.TheVariants as refusal

-- Why there is no phrase: the first of these words, or their end, does not fit; or one bracket or
-- conditional too many is opened, with these words after it.
pub data WideCause : Type 0 where
  Misfit : List WideWord → WideCause
  Deep : List WideWord → WideCause

-- a phrase and the words after it, or a refusal
pub data WideReadOutcome : Type 0 where
  Got : WidePhrase → List WideWord → WideReadOutcome
  Refused : WideCause → WideReadOutcome

-- the result of a step: an expression, arguments, items, or keys with their values
pub data WideKind : Type 0 where
  whole : WideKind
  many : WideKind
  listed : WideKind
  keyed : WideKind

-- the value of a step of each kind
abbrev pub WideOf : WideKind → Type 0
WideOf whole = Wide
WideOf many = List Wide
WideOf listed = List (Access × Wide)
WideOf keyed = List (Access × Wide × Wide)

-- the value of a step as a phrase
abbrev pub phrase : (k : WideKind) → WideOf k → WidePhrase
phrase whole a = One a
phrase many more = Many more
phrase listed more = Listed more
phrase keyed pairs = Keyed pairs

-- a state of the reader; `true` if the word before is an opening bracket that is not counted yet
pub data WideReadStep : Bool → WideKind → Type 0 where
  Row : WideClass → WideReadStep false whole  -- at a phrase of the row
  Tail : Level → Wide → WideReadStep false whole  -- after an operand of the level
  Suffix : Wide → WideReadStep false whole  -- after a member
  Selection : Wide → WideReadStep false whole  -- after a member and its dot
  Indexed : Wide → WideReadStep true whole  -- after a member and its bracket
  Enclosed : WideReadStep true whole  -- after a parenthesis that opens an expression
  Called : WideReadStep true many  -- after the parenthesis that opens arguments
  Argument : List Wide → WideReadStep false many  -- at an argument, after these
  BehindArgument : List Wide → WideReadStep false many  -- after these arguments
  Bracketed : WideReadStep true listed  -- after the bracket that opens a list literal
  Item : List (Access × Wide) → WideReadStep false listed  -- at an item, after these
  BehindItem : List (Access × Wide) → WideReadStep false listed  -- after these items
  Mapped : WideReadStep true keyed  -- after the brace that opens a map literal
  Entry : List (Access × Wide × Wide) → WideReadStep false keyed  -- at an entry, after these
  BehindEntry : List (Access × Wide × Wide) → WideReadStep false keyed  -- after these entries

-- what the reader does next; `true` if the word before is an opening bracket or a
-- question mark that is not counted yet
pub data WidePlan : Bool → WideKind → Type 0 where
  never : {k : WideKind} → WidePlan false k  -- unreachable
  done : {k : WideKind} → WideOf k → WidePlan false k  -- this is the phrase
  misfit : {k : WideKind} → WidePlan false k  -- the first of the words, or the end, does not fit
  go : {b : Bool} {k : WideKind} → WideReadStep b k → WidePlan b k  -- take this step
  call : {b : Bool} {j k : WideKind} → WideReadStep b j → (WideOf j → WidePlan false k)
      → WidePlan b k  -- take this step, then continue with its phrase
  -- continue after such a word; otherwise, if it is not first, with the other plan
  look : {k : WideKind} (l : WideLook) → (WideFoundBy l → WidePlan false k) → WidePlan false k → WidePlan false k
  enter : {k : WideKind} (m : Mark) → opens_mark m ≡ true → WidePlan true k → WidePlan false k
      → WidePlan false k  -- continue after this opening mark, or with the other plan
  inside : {k : WideKind} → WidePlan false k → WidePlan true k  -- if one more may be open

-- after a question mark, if there is one
abbrev pub access : {k : WideKind} → (Access → WidePlan false k) → WidePlan false k
access f = look (at Question) (λ x. f Optional) (f Plain)

-- a name, or a call if an opening parenthesis follows
abbrev pub maybe_call : Wide → (List Wide → Wide) → WidePlan false whole
maybe_call a of = enter OpenParen refl (call Called (λ more. done (of more))) (done a)

-- a name alone, or with arguments
abbrev pub with_arguments : Wide → (List Wide → Wide) → Option (List Wide) → Wide
with_arguments a of None = a
with_arguments a of (Some more) = of more

-- a list after its opening bracket: it is empty or continues with the first part; in a
-- call a comma there is refused by the argument
abbrev pub first_part : {k : WideKind} → Closing → WideOf k → WideReadStep false k → WidePlan true k
first_part c none first =
    inside (look (at (closing_mark c)) (λ x. done none)
    (look (in_literal c Comma) (λ x. look (at (closing_mark c)) (λ y. done none) misfit) (go first)))

-- a list after a part: it ends or continues with the next
abbrev pub behind : {k : WideKind} → Closing → WideOf k → WideReadStep false k → WidePlan false k
behind c all next =
    look (at (closing_mark c)) (λ x. done all)
    (look (at Comma) (λ x. look (in_literal c (closing_mark c)) (λ y. done all) (go next)) misfit)

-- a step whose phrase this mark follows
abbrev pub before : {k : WideKind} → WideReadStep false whole → Mark → (Wide → WidePlan false k) → WidePlan false k
before s m f = call s (λ a. look (at m) (λ x. f a) misfit)

-- an expression up to this mark
abbrev pub up_to : {k : WideKind} → Mark → (Wide → WidePlan false k) → WidePlan false k
up_to m f = before (Row Expression) m f

-- the branches of a conditional, after its question mark
abbrev pub branches : Wide → WidePlan true whole
branches a = inside (before (Row (Infix Or)) Colon (λ b. call (Row Expression) (λ c. done (tree.ternary a b c))))

-- an index after its bracket and its question mark, if it has one
abbrev pub index_after : Wide → Access → WidePlan false whole
index_after a o = up_to CloseBracket (λ b. done (tree.index a o b))

-- an item after its question mark, if it has one
abbrev pub item_after : List (Access × Wide) → Access → WidePlan false listed
item_after before o = call (Row Expression) (λ a. go (BehindItem (before ++ (o, a) ∷ [])))

-- an entry after its question mark, if it has one
abbrev pub entry_after : List (Access × Wide × Wide) → Access → WidePlan false keyed
entry_after before o = up_to Colon (λ a. call (Row Expression) (λ b. go (BehindEntry (before ++ (o, a, b) ∷ []))))

-- what the reader does in each state
abbrev pub plan : {b : Bool} {k : WideKind} → WideReadStep b k → WidePlan b k
plan (Row Expression) = call (Row (Infix Or)) (λ a. enter Question refl (branches a) (done a))
plan (Row (Infix l)) = call (Row (below l)) (λ a. go (Tail l a))
plan (Tail l a) = look (operator l) (λ op. call (Row (below l)) (λ b. go (Tail l (tree.binary op a b)))) (done a)
plan (Row Unary) =
    look (at Not) (λ x. go (Row (Prefixed unary.Not true))) (look (at Minus) (λ x. go (Row (Prefixed unary.Negate true))) (go (Row Member)))
plan (Row (Prefixed op odd)) =
    look (at (unary_mark op)) (λ x. go (Row (Prefixed op (not odd)))) (call (Row Member) (λ a. done (applied op odd a)))
plan (Row Member) = call (Row Primary) (λ a. go (Suffix a))
plan (Suffix a) =
    look (at Dot) (λ x. call (Selection a) (λ b. go (Suffix b)))
    (enter OpenBracket refl (call (Indexed a) (λ b. go (Suffix b))) (done a))
plan (Selection a) =
    look (at Question)
    (λ x. look (named is_selector) (λ n. done (tree.select a Optional n)) (look back_quoted (λ n. done (tree.select a Optional n)) misfit))
    (look (named is_selector) (λ n. maybe_call (tree.select a Plain n) (λ more. method_of a n (wides more)))
    (look back_quoted (λ n. done (tree.select a Plain n)) misfit))
plan (Indexed a) = inside (access (index_after a))
plan (Row Primary) =
    enter OpenParen refl (go Enclosed)
    (enter OpenBracket refl (call Bracketed (λ more. done (tree.list (items more))))
    (enter OpenBrace refl (call Mapped (λ pairs. done (tree.map (entries pairs))))
    (look constant (λ v. done v)
    (look (at Dot) (λ x. look (named is_identifier) (λ n. maybe_call (tree.root n) (λ more. call_of n (wides more))) misfit)
    (look (named is_identifier) (λ n. maybe_call (tree.name n) (λ more. call_of n (wides more))) misfit)))))
plan (Row _) = never
plan Enclosed = inside (up_to CloseParen (λ a. done a))
plan Called = first_part Call [] (Argument [])
plan (Argument before) = call (Row Expression) (λ a. go (BehindArgument (before ++ a ∷ [])))
plan (BehindArgument before) = behind Call before (Argument before)
plan Bracketed = first_part ListLiteral [] (Item [])
plan (Item before) = access (item_after before)
plan (BehindItem before) = behind ListLiteral before (Item before)
plan Mapped = first_part Map [] (Entry [])
plan (Entry before) = access (entry_after before)
plan (BehindEntry before) = behind Map before (Entry before)

-- with this room, before these words, the plan has this outcome
pub data WidePlanEnds : (b : Bool) (k : WideKind) → WidePlan b k → ℕ → List WideWord → WideReadOutcome → Type 0 where
  stands : {k : WideKind} {x : WideOf k} {room : ℕ} {ws : List WideWord} → WidePlanEnds false k (done x) room ws (Got (phrase k x) ws)
  unfit : {k : WideKind} {room : ℕ} {ws : List WideWord} → WidePlanEnds false k misfit room ws (Refused (Misfit ws))
  goes : {b : Bool} {k : WideKind} {s : WideReadStep b k} {room : ℕ} {ws : List WideWord} {o : WideReadOutcome}
      → WidePlanEnds b k (plan s) room ws o → WidePlanEnds b k (go s) room ws o
  fails : {b : Bool} {j k : WideKind} {s : WideReadStep b j} {f : WideOf j
      → WidePlan false k} {room : ℕ} {ws : List WideWord} {e : WideCause}
      → WidePlanEnds b j (go s) room ws (Refused e) → WidePlanEnds b k (call s f) room ws (Refused e)
  calls : {b : Bool} {j k : WideKind} {s : WideReadStep b j} {f : WideOf j
      → WidePlan false k} {room : ℕ} {ws rest : List WideWord} {o : WideReadOutcome} (x : WideOf j)
      → WidePlanEnds b j (go s) room ws (Got (phrase j x) rest) → WidePlanEnds false k (f x) room rest o
      → WidePlanEnds b k (call s f) room ws o
  found : {k : WideKind} {l : WideLook} {f : WideFoundBy l
      → WidePlan false k} {p : WidePlan false k} {room : ℕ} {w : WideWord} {ws : List WideWord} {x : WideFoundBy l}
      {o : WideReadOutcome} → WideIs l w x → WidePlanEnds false k (f x) room ws o → WidePlanEnds false k (look l f p) room (w ∷ ws) o
  missing : {k : WideKind} {l : WideLook} {f : WideFoundBy l
      → WidePlan false k} {p : WidePlan false k} {room : ℕ} {ws : List WideWord} {o : WideReadOutcome}
      → WideIsNotNext l ws → WidePlanEnds false k p room ws o → WidePlanEnds false k (look l f p) room ws o
  enters : {k : WideKind} {m : Mark} {e : opens_mark m ≡ true} {p : WidePlan true k} {q : WidePlan false k} {room : ℕ} {ws : List WideWord}
      {o : WideReadOutcome}
      → WidePlanEnds true k p room ws o → WidePlanEnds false k (enter m e p q) room (mark m ∷ ws) o
  passes : {k : WideKind} {m : Mark} {e : opens_mark m ≡ true} {p : WidePlan true k} {q : WidePlan false k} {room : ℕ} {ws : List WideWord}
      {o : WideReadOutcome}
      → WideIsNotNext (at m) ws → WidePlanEnds false k q room ws o → WidePlanEnds false k (enter m e p q) room ws o
  opened : {k : WideKind} {p : WidePlan false k} {room : ℕ} {ws : List WideWord} {o : WideReadOutcome}
      → WidePlanEnds false k p room ws o → WidePlanEnds true k (inside p) (suc room) ws o
  full : {k : WideKind} {p : WidePlan false k} {ws : List WideWord} → WidePlanEnds true k (inside p) zero ws (Refused (Deep ws))

-- with this room, before these words, the plan has this outcome; the parts of the type are inferred
abbrev pub WidePlanRuns : {b : Bool} {k : WideKind} → WidePlan b k → ℕ → List WideWord → WideReadOutcome → Type 0
WidePlanRuns {b} {k} p room ws o = WidePlanEnds b k p room ws o

-- In this state, with this room, before these words, the reader has this outcome.
abbrev pub WideStepReads : {b : Bool} {k : WideKind} → WideReadStep b k → ℕ → List WideWord → WideReadOutcome → Type 0
WideStepReads s room ws o = WidePlanRuns (go s) room ws o

-- the result is an outcome of this reading, unless an allocation failed; an error gives the number of words left
abbrev pub ReturnsWideOutcome : {X : Type 0} → (X → WideReadOutcome) → Result X Refusal → (WideReadOutcome → Type 0) → Type 0
ReturnsWideOutcome seen (Ok x) P = P (seen x)
ReturnsWideOutcome seen (Err (refusal.Misfit left)) P = (rest : List WideWord) × (left ≡ length rest) × P (Refused (Misfit rest))
ReturnsWideOutcome seen (Err (refusal.Deep left)) P = (rest : List WideWord) × (left ≡ suc (length rest)) × P (Refused (Deep rest))
ReturnsWideOutcome seen (Err refusal.Memory) P = Unit {0}

-- an error's outcome is one of this reading
abbrev pub Fails : Refusal → (WideReadOutcome → Type 0) → Type 0
Fails e P = ReturnsWideOutcome {X = Unit {0}} (λ u. Refused (Misfit [])) (Err e) P

-- what was read leads to each outcome of this reading that follows from it; an error's outcome is one of the reading
abbrev pub Leads : {X : Type 0} → Result X Refusal → (X → WideReadOutcome → Type 0) → (WideReadOutcome → Type 0) → Type 0
Leads (Ok x) After P = (o : WideReadOutcome) → After x o → P o
Leads (Err e) After P = Fails e P

-- the second result is the first one's error, or built from what was read unless an allocation failed
abbrev pub IsBuiltFrom : {X Y : Type 0} → Result X Refusal → Result Y Refusal → (X → Y → Type 0) → Type 0
IsBuiltFrom (Ok x) (Ok y) Built = Built x y
IsBuiltFrom (Ok x) (Err e) Built = e ≡ refusal.Memory
IsBuiltFrom (Err e) r Built = r ≡ Err e
