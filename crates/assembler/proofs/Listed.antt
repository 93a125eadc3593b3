-- The listing of code is its source.
use Rattle.assembler.proofs.Prelude.{◌≡◌, ◌≢◌, ℕ, ◌+◌, ◌*◌, ◌/◌, ◌%◌, ◌<◌, ◌≤◌, List, [], ◌∷◌, ◌++◌, Option, None, refl, sym, ◌∙◌, ap, subst, arith, length, map, false, ◌==◌, All, ne_eqb, All-tail, NoLineFeed, SlotsAreFilled, StandsFirst, StatementIsSpelled, IsStatement, Lists, Listing, after_statement, lines_text, statement_bytes, statement_of, statement_slots, statement_text, place, Statement, lines_of, before_line, SourceItem, statement, label, slots_of, EachSays, Source, StandFor, none, line, stated, slot_limit}
use Rattle.insn_codec.specs.Statements.Lists.{ended}

abbrev IsNoFeed : ℕ → Type 0
IsNoFeed b = b ≢ 10

is_not : (x : ℕ) → x ≢ 10 → (x == 10) ≡ false
is_not x ne = ne_eqb x 10 ne

-- a line without a line feed ends at its own
cut_off : (text rest : List ℕ) → All IsNoFeed text → lines_of (text ++ 10 ∷ rest) ≡ text ∷ lines_of rest
cut_off [] rest quiet = refl
cut_off (x ∷ xs) rest quiet = rw (is_not x (quiet 0 0 (omega arith))) (ap (before_line x) (cut_off xs rest (All-tail IsNoFeed x xs quiet)))

-- the bytes of statements, in order
abbrev all_bytes : List Statement → List ℕ
all_bytes [] = []
all_bytes (x ∷ xs) = statement_bytes x ++ all_bytes xs

abbrev EachStatement : List Statement → Type 0
EachStatement [] = Unit {0}
EachStatement (x ∷ xs) = IsStatement x × EachStatement xs

lines_again : NoLineFeed → (xs : List Statement) → EachStatement xs → lines_of (lines_text xs) ≡ map statement_text xs
lines_again quiet [] each = refl
lines_again quiet (x ∷ xs) each = cut_off (statement_text x) (lines_text xs) (quiet x each.0) ∙ ap (λ lines. statement_text x ∷ lines) (lines_again quiet xs each.1)

says_each : (xs : List Statement) → EachStatement xs → EachSays (map statement_text xs) (map statement xs)
says_each [] each = tt
says_each (x ∷ xs) each = ((refl, (grind arith), each.0), says_each xs each.1)

abbrev no_labels : List ℕ → Option ℕ
no_labels q = None

no_label : (xs : List Statement) (before later : List SourceItem) (name : List ℕ) → map statement xs ≡ before ++ label name ∷ later → ⊥
no_label [] [] later name e = cc
no_label [] (i ∷ before) later name e = cc
no_label (x ∷ xs) [] later name e = cc
no_label (x ∷ xs) (i ∷ before) later name e = no_label xs before later name cc

stand_each : (slot : ℕ) (xs : List Statement) → StandFor no_labels slot (map statement xs) (all_bytes xs)
stand_each slot [] = none
stand_each slot (x ∷ xs) = line (stated x) (stand_each (slot + statement_slots x) xs)

slots_again : SlotsAreFilled → (xs : List Statement) → 8 * slots_of (map statement xs) ≡ length (all_bytes xs)
slots_again filled [] = refl
slots_again filled (x ∷ xs) = grind (arith, slots_again filled xs)

all_after : (xs ys : List ℕ) → All (λ b. b < 256) (xs ++ ys) → All (λ b. b < 256) ys
all_after [] ys all = all
all_after (x ∷ xs) ys all = all_after xs ys (All-tail (λ b. b < 256) x (xs ++ ys) all)

-- the listed statements are in the code, one after another
abbrev Stands : List ℕ → List Statement → Type 0
Stands code xs = EachStatement xs × (code ≡ all_bytes xs)

stands_of : StatementIsSpelled → SlotsAreFilled → (code : List ℕ) (xs : List Statement) → All (λ b. b < 256) code → length code % 8 ≡ 0 → Lists code xs → Stands code xs
stands_of spelled filled code [] small whole ended = (tt, refl)
stands_of spelled filled code (x ∷ xs) small whole (place {byte = byte} {bytes = bytes} {later = later} rest) =
    let full : byte ∷ bytes ≢ [] = λ e. cc in
    let first : StandsFirst (byte ∷ bytes) = spelled (byte ∷ bytes) small whole full in
    let after = after_statement (byte ∷ bytes) in
    let more = stands_of spelled filled after later (all_after (statement_bytes (statement_of (byte ∷ bytes))) after (subst (λ z. All (λ b. b < 256) z) first.bytes small)) (grind arith) rest in
    ((first.in_range, more.0), first.bytes ∙ ap (λ z. statement_bytes (statement_of (byte ∷ bytes)) ++ z) more.1)

pub listed : NoLineFeed → StatementIsSpelled → SlotsAreFilled → (code text : List ℕ) → All (λ b. b < 256) code → length code % 8 ≡ 0
    → length code / 8 ≤ slot_limit → Listing code text → Source text code
listed quiet spelled filled code text small whole room l =
    let stands = stands_of spelled filled code l.statements small whole l.lists in
    let lines : lines_of text ≡ map statement_text l.statements = ap lines_of l.text_is ∙ lines_again quiet l.statements stands.0 in
    let slots : 8 * slots_of (map statement l.statements) ≡ length code = slots_again filled l.statements ∙ ap (λ z. length z) (sym stands.1) in
    record {
      items = map statement l.statements;
      lines = rw lines (says_each l.statements stands.0);
      labels = no_labels;
      places = grind (arith, no_label);
      room = omega (arith, slots, room);
      code = rw stands.1 (stand_each 0 l.statements);
    }
