-- The steps of the reader, and their outcomes.
use Rattle.std.specs.Prelude.{◌≡◌, ℕ, zero, suc, List, [], ◌∷◌, ◌++◌, length, Bool, true, false, Option, None, Some, Result, Ok, Err}
use Rattle.std.proofs.Common.{refl}
use Rattle.cel_tokens.specs.Token.{Word, mark}
use Rattle.cel_tokens.specs.declared.mark.Mark.{Mark, TheVariants.CloseBracket, TheVariants.OpenBrace}
use Rattle.cel_tokens.specs.declared.mark.Mark.TheVariants.{Question, Colon, Dot, Comma, Not, Minus, OpenParen, CloseParen, OpenBracket}
use Rattle.cel_reader.specs.Tree as tree
use Rattle.cel_reader.specs.Tree.{Tree, trees, entries}
use Rattle.cel_reader.specs.Words.{is_identifier, is_selector, unary_mark}
use Rattle.cel_reader.specs.Grammar.{Class, Expression, Infix, Unary, Prefixed, Member, Primary, Phrase, One, Many, Keyed, below}
use Rattle.cel_reader.specs.Look.{Look, at, in_literal, named, constant, operator, FoundBy, Is, IsNotNext, opens_mark, closing_mark}
use Rattle.cel_reader.specs.declared.level.Level.{Level, TheVariants.Or}
use Rattle.cel_reader.specs.declared.closing.Closing.{Closing}
use Rattle.cel_reader.specs.declared.closing.Closing.TheVariants.{Call, List as ListLiteral, Map}
use Rattle.cel_reader.specs.declared.operator.UnaryOperator.{UnaryOperator}
use Rattle.cel_reader.specs.declared.operator.UnaryOperator.TheVariants as unary
use Rattle.cel_reader.specs.declared.refusal.Refusal.{Refusal}
use Rattle.cel_reader.specs.declared.refusal.Refusal.TheVariants as refusal

-- Why there is no phrase: the first of these words, or their end, does not fit; or one bracket or
-- conditional too many is opened, with these words after it.
pub data Cause : Type 0 where
  Misfit : List Word → Cause
  Deep : List Word → Cause

-- a phrase and the words after it, or a refusal
pub data ReadOutcome : Type 0 where
  Got : Phrase → List Word → ReadOutcome
  Refused : Cause → ReadOutcome

-- the result of a step: an expression, a list of them, or keys with their values
pub data Kind : Type 0 where
  whole : Kind
  many : Kind
  keyed : Kind

-- the value of a step of each kind
abbrev pub Of : Kind → Type 0
Of whole = Tree
Of many = List Tree
Of keyed = List (Tree × Tree)

-- the value of a step as a phrase
abbrev pub phrase : (k : Kind) → Of k → Phrase
phrase whole a = One a
phrase many items = Many items
phrase keyed pairs = Keyed pairs

-- a state of the reader; `true` if the word before is an opening bracket that is not counted yet
pub data Step : Bool → Kind → Type 0 where
  Row : Class → Step false whole  -- at a phrase of the row
  Tail : Level → Tree → Step false whole  -- after an operand of the level
  Suffix : Tree → Step false whole  -- after a member
  Selection : Tree → Step false whole  -- after a member and its dot
  Enclosed : Mark → Step true whole  -- after the bracket that opens an expression, which this mark closes
  Listed : Closing → Step true many  -- after the bracket that opens a list of expressions
  Item : Closing → List Tree → Step false many  -- at an item, after these
  Behind : Closing → List Tree → Step false many  -- after these items
  Mapped : Step true keyed  -- after the brace that opens a list of entries
  Entry : List (Tree × Tree) → Step false keyed  -- at an entry, after these
  BehindEntry : List (Tree × Tree) → Step false keyed  -- after these entries

-- what the reader does next; `true` if the word before is an opening bracket or a
-- question mark that is not counted yet
pub data Plan : Bool → Kind → Type 0 where
  never : {k : Kind} → Plan false k  -- unreachable
  done : {k : Kind} → Of k → Plan false k  -- this is the phrase
  misfit : {k : Kind} → Plan false k  -- the first of the words, or the end, does not fit
  go : {b : Bool} {k : Kind} → Step b k → Plan b k  -- take this step
  call : {b : Bool} {j k : Kind} → Step b j → (Of j → Plan false k) → Plan b k  -- take this step, then continue with its phrase
  -- continue after such a word; otherwise, if it is not first, with the other plan
  look : {k : Kind} (l : Look) → (FoundBy l → Plan false k) → Plan false k → Plan false k
  enter : {k : Kind} (m : Mark) → opens_mark m ≡ true → Plan true k → Plan false k
      → Plan false k  -- continue after this opening mark, or with the other plan
  inside : {k : Kind} → Plan false k → Plan true k  -- if one more may be open

-- an operand with this operator before it
abbrev pub operand : UnaryOperator → Plan false whole
operand op = call (Row (Prefixed op)) (λ a. done (tree.unary op a))

-- a name, or a call if an opening parenthesis follows
abbrev pub maybe_call : Tree → (List Tree → Tree) → Plan false whole
maybe_call a of = enter OpenParen refl (call (Listed Call) (λ items. done (of items))) (done a)

-- a name alone, or with arguments
abbrev pub with_arguments : Tree → (List Tree → Tree) → Option (List Tree) → Tree
with_arguments a of None = a
with_arguments a of (Some items) = of items

-- a step whose phrase this mark follows
abbrev pub before : {k : Kind} → Step false whole → Mark → (Tree → Plan false k) → Plan false k
before s m f = call s (λ a. look (at m) (λ x. f a) misfit)

-- a phrase of the row, a colon and an expression
abbrev pub pair : {k : Kind} → Class → (Tree → Tree → Plan false k) → Plan false k
pair first f = before (Row first) Colon (λ a. call (Row Expression) (λ b. f a b))

-- the branches of a conditional, after its question mark
abbrev pub branches : Tree → Plan true whole
branches a = inside (pair (Infix Or) (λ b c. done (tree.ternary a b c)))

-- a list after its opening bracket: it is empty or continues with the first item; in a
-- call a comma there is refused by the item
abbrev pub listed : {k : Kind} → Closing → Of k → Step false k → Plan true k
listed c none first =
    inside (look (at (closing_mark c)) (λ x. done none)
    (look (in_literal c Comma) (λ x. look (at (closing_mark c)) (λ y. done none) misfit) (go first)))

-- a list after an item: it ends or continues with the next
abbrev pub behind : {k : Kind} → Closing → Of k → Step false k → Plan false k
behind c all next =
    look (at (closing_mark c)) (λ x. done all)
    (look (at Comma) (λ x. look (in_literal c (closing_mark c)) (λ y. done all) (go next)) misfit)

-- what the reader does in each state
abbrev pub plan : {b : Bool} {k : Kind} → Step b k → Plan b k
plan (Row Expression) = call (Row (Infix Or)) (λ a. enter Question refl (branches a) (done a))
plan (Row (Infix l)) = call (Row (below l)) (λ a. go (Tail l a))
plan (Tail l a) = look (operator l) (λ op. call (Row (below l)) (λ b. go (Tail l (tree.binary op a b)))) (done a)
plan (Row Unary) = look (at Not) (λ x. operand unary.Not) (look (at Minus) (λ x. operand unary.Negate) (go (Row Member)))
plan (Row (Prefixed op)) = look (at (unary_mark op)) (λ x. operand op) (go (Row Member))
plan (Row Member) = call (Row Primary) (λ a. go (Suffix a))
plan (Suffix a) =
    look (at Dot) (λ x. call (Selection a) (λ b. go (Suffix b)))
    (enter OpenBracket refl (call (Enclosed CloseBracket) (λ b. go (Suffix (tree.index a b)))) (done a))
plan (Selection a) = look (named is_selector) (λ n. maybe_call (tree.select a n) (λ items. tree.method a n (trees items))) misfit
plan (Row Primary) =
    enter OpenParen refl (go (Enclosed CloseParen))
    (enter OpenBracket refl (call (Listed ListLiteral) (λ items. done (tree.list (trees items))))
    (enter OpenBrace refl (call Mapped (λ pairs. done (tree.map (entries pairs))))
    (look constant (λ v. done (tree.literal v))
    (look (named is_identifier) (λ n. maybe_call (tree.name n) (λ items. tree.call n (trees items))) misfit))))
plan (Row _) = never
plan (Enclosed m) = inside (before (Row Expression) m (λ a. done a))
plan (Listed c) = listed c [] (Item c [])
plan (Item c items) = call (Row Expression) (λ a. go (Behind c (items ++ a ∷ [])))
plan (Behind c items) = behind c items (Item c items)
plan Mapped = listed Map [] (Entry [])
plan (Entry pairs) = pair Expression (λ a b. go (BehindEntry (pairs ++ (a, b) ∷ [])))
plan (BehindEntry pairs) = behind Map pairs (Entry pairs)

-- with this room, before these words, the plan has this outcome
pub data PlanEnds : (b : Bool) (k : Kind) → Plan b k → ℕ → List Word → ReadOutcome → Type 0 where
  stands : {k : Kind} {x : Of k} {room : ℕ} {ws : List Word} → PlanEnds false k (done x) room ws (Got (phrase k x) ws)
  unfit : {k : Kind} {room : ℕ} {ws : List Word} → PlanEnds false k misfit room ws (Refused (Misfit ws))
  goes : {b : Bool} {k : Kind} {s : Step b k} {room : ℕ} {ws : List Word} {o : ReadOutcome}
      → PlanEnds b k (plan s) room ws o → PlanEnds b k (go s) room ws o
  fails : {b : Bool} {j k : Kind} {s : Step b j} {f : Of j → Plan false k} {room : ℕ} {ws : List Word} {e : Cause}
      → PlanEnds b j (go s) room ws (Refused e) → PlanEnds b k (call s f) room ws (Refused e)
  calls : {b : Bool} {j k : Kind} {s : Step b j} {f : Of j → Plan false k} {room : ℕ} {ws rest : List Word} {o : ReadOutcome} (x : Of j)
      → PlanEnds b j (go s) room ws (Got (phrase j x) rest) → PlanEnds false k (f x) room rest o → PlanEnds b k (call s f) room ws o
  found : {k : Kind} {l : Look} {f : FoundBy l → Plan false k} {p : Plan false k} {room : ℕ} {w : Word} {ws : List Word} {x : FoundBy l}
      {o : ReadOutcome} → Is l w x → PlanEnds false k (f x) room ws o → PlanEnds false k (look l f p) room (w ∷ ws) o
  missing : {k : Kind} {l : Look} {f : FoundBy l → Plan false k} {p : Plan false k} {room : ℕ} {ws : List Word} {o : ReadOutcome}
      → IsNotNext l ws → PlanEnds false k p room ws o → PlanEnds false k (look l f p) room ws o
  enters : {k : Kind} {m : Mark} {e : opens_mark m ≡ true} {p : Plan true k} {q : Plan false k} {room : ℕ} {ws : List Word}
      {o : ReadOutcome}
      → PlanEnds true k p room ws o → PlanEnds false k (enter m e p q) room (mark m ∷ ws) o
  passes : {k : Kind} {m : Mark} {e : opens_mark m ≡ true} {p : Plan true k} {q : Plan false k} {room : ℕ} {ws : List Word}
      {o : ReadOutcome}
      → IsNotNext (at m) ws → PlanEnds false k q room ws o → PlanEnds false k (enter m e p q) room ws o
  opened : {k : Kind} {p : Plan false k} {room : ℕ} {ws : List Word} {o : ReadOutcome}
      → PlanEnds false k p room ws o → PlanEnds true k (inside p) (suc room) ws o
  full : {k : Kind} {p : Plan false k} {ws : List Word} → PlanEnds true k (inside p) zero ws (Refused (Deep ws))

-- with this room, before these words, the plan has this outcome; the parts of the type are inferred
abbrev pub PlanRuns : {b : Bool} {k : Kind} → Plan b k → ℕ → List Word → ReadOutcome → Type 0
PlanRuns {b} {k} p room ws o = PlanEnds b k p room ws o

-- In this state, with this room, before these words, the reader has this outcome.
abbrev pub StepReads : {b : Bool} {k : Kind} → Step b k → ℕ → List Word → ReadOutcome → Type 0
StepReads s room ws o = PlanRuns (go s) room ws o

-- the result is an outcome of this reading, unless an allocation failed; an error gives the number of words left
abbrev pub ReturnsOutcome : {X : Type 0} → (X → ReadOutcome) → Result X Refusal → (ReadOutcome → Type 0) → Type 0
ReturnsOutcome seen (Ok x) P = P (seen x)
ReturnsOutcome seen (Err (refusal.Misfit left)) P = (rest : List Word) × (left ≡ length rest) × P (Refused (Misfit rest))
ReturnsOutcome seen (Err (refusal.Deep left)) P = (rest : List Word) × (left ≡ suc (length rest)) × P (Refused (Deep rest))
ReturnsOutcome seen (Err refusal.Memory) P = Unit {0}

-- an error's outcome is one of this reading
abbrev pub PhraseFails : Refusal → (ReadOutcome → Type 0) → Type 0
PhraseFails e P = ReturnsOutcome {X = Unit {0}} (λ u. Refused (Misfit [])) (Err e) P

-- what was read leads to each outcome of this reading that follows from it; an error's outcome is one of the reading
abbrev pub PhraseLeads : {X : Type 0} → Result X Refusal → (X → ReadOutcome → Type 0) → (ReadOutcome → Type 0) → Type 0
PhraseLeads (Ok x) After P = (o : ReadOutcome) → After x o → P o
PhraseLeads (Err e) After P = PhraseFails e P

-- the second result is the first one's error, or built from what was read unless an allocation failed
abbrev pub IsPhraseOf : {X Y : Type 0} → Result X Refusal → Result Y Refusal → (X → Y → Type 0) → Type 0
IsPhraseOf (Ok x) (Ok y) Built = Built x y
IsPhraseOf (Ok x) (Err e) Built = e ≡ refusal.Memory
IsPhraseOf (Err e) r Built = r ≡ Err e
