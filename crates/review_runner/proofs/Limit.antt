-- An order whose words are accepted has at most 1,000,000,000 steps.
use Rattle.review_runner.proofs.Prelude.{◌≡◌, ◌≤◌, List, [], ◌∷◌, ◌++◌, Option, Some, None, Result, IfOk, Bool, true, false, subst, refl, ap, arith, codes, nat_lt, ◌&&◌, ℕ, if◌then◌else◌, find, unwrap_or, option_map, option_and_then, slice_get, digits_value, without_leading_plus, option_map_or, bytes_eq-Decides, is_unsigned_in, values_kinds, App, Shape, built, label_of, rows_at, read_as, Row, Rule, Text, answers_to, at_row, default_rows, nothing_held, one_of, reading_by, row_text, rows_after, walk, walk_from, with_default, with_values, entered_fault, level_fault, ErrorKind, ValueSource, CommandLine, file_rule, option_rule, required_option_rule, steps_rule, command, commands, with_commands, celbpf_app, faults, entered, number_of, number_written, OrderReturns, IsWithinLimits, assemble_in, compile_in, debug_in, list_in, order_in, order_view, review_in, run_image_in, order_named, CodeOrder, OrderError, step_limit, default_steps}
use Rattle.std.specs.Char.{digit_value}
use Rattle.std.specs.List.{list_all}
use Rattle.std.specs.Str.{bytes_eq}
use Rattle.cli.specs.Number.{are_digits}
use Rattle.clap.specs.Simple.{entered as entered_of}
use Rattle.clap.specs.Walk.{without}
use Rattle.clap.specs.declared.builder.value_parser.Reading.{Reading}
use Rattle.clap.specs.declared.builder.value_parser.Reading.TheVariants as reading
use Rattle.clap.specs.declared.builder.value_parser.ValueParser.TheVariants as parser
use Rattle.review_runner.proofs.Kept.{AtOption, Each, Keeps, defaults_keep, found, nothing, settle_keeps, walk_keeps}

-- ---- rows

abbrev Within : Text → Type 0
Within t = is_unsigned_in 0 step_limit t ≡ true

abbrev RowOk : Row → Type 0
RowOk r = bytes_eq r.id (codes "steps") ≡ true → Each Within r.values × (r.reading ≡ reading.AsWritten)

abbrev RowsOk : List Row → Type 0
RowsOk = Each RowOk

each_append : {X : Type 0} (Q : X → Type 0) (xs ys : List X) → Each Q xs → Each Q ys
    → Each Q (xs ++ ys)
each_append Q [] ys h k = k
each_append Q (x ∷ xs) ys h k = (h.0, each_append Q xs ys h.1 k)

at_row_keeps : (id : Text) (f : Row → List Row) (new rows : List Row) → ((r : Row)
    → bytes_eq r.id id ≡ true → RowOk r → RowsOk (f r)) → RowsOk new → RowsOk rows
    → RowsOk (at_row id f new rows)
at_row_keeps id f new [] change n g = n
at_row_keeps id f new (r ∷ rs) change n g = grind (arith, each_append, at_row_keeps id f new rs change n g.1)

without_keeps : (id : Text) (rows : List Row) → RowsOk rows → RowsOk (without id rows)
without_keeps id rows g = at_row_keeps id (λ _. []) [] rows (λ r e ok. tt) tt g

same_id : (a b c : Text) → bytes_eq a b ≡ true → bytes_eq a c ≡ true → bytes_eq b c ≡ true
same_id a b c e f = subst (λ t. bytes_eq t c ≡ true) ((bytes_eq-Decides a b).0 e) f

with_keeps : (id : Text) (how : Reading) (from : ValueSource) (values : List Text) (rows : List Row)
    → (bytes_eq id (codes "steps") ≡ true → Each Within values × (how ≡ reading.AsWritten))
    → RowsOk rows → RowsOk (with_values id how from values rows)
with_keeps id how from values rows h g = grind (arith, Within, each_append, at_row_keeps, same_id)

set_keeps : (id : Text) (how : Reading) (values : List Text) (rows : List Row)
    → (bytes_eq id (codes "steps") ≡ true → Each Within values × (how ≡ reading.AsWritten))
    → RowsOk rows → RowsOk (with_values id how CommandLine values (without id rows))
set_keeps id how values rows h g = with_keeps id how CommandLine values (without id rows) h (without_keeps id rows g)

-- ---- uses and defaults

passed : (b : Bool) (k : ErrorKind) → (if b then [] else k ∷ []) ≡ [] → b ≡ true
passed b k e = grind arith

values_within : (ic : Bool) (vs : List Text)
    → values_kinds ic (parser.Unsigned 0 step_limit) vs ≡ [] → Each Within vs
values_within ic [] e = tt
values_within ic (v ∷ vs) e = let p = nothing _ _ e in (passed (is_unsigned_in 0 step_limit v) _ p.0, values_within ic vs p.1)

default_rows_keep : (id : Text) (how : Reading) (values : List Text) (rows : List Row)
    → (bytes_eq id (codes "steps") ≡ true → Each Within values × (how ≡ reading.AsWritten))
    → RowsOk rows → RowsOk (default_rows id how values rows)
default_rows_keep id how values rows h g = grind (arith, with_keeps)

abbrev DefaultOk : Rule → Type 0
DefaultOk a = bytes_eq a.id (codes "steps") ≡ true → Each Within a.defaults × (reading_by a ≡ reading.AsWritten)

abbrev DefaultKeeps : Rule → Type 0
DefaultKeeps a = (rows : List Row) → RowsOk rows → RowsOk (with_default rows a)

default_keeps : (a : Rule) → DefaultOk a → DefaultKeeps a
default_keeps a h rows g = grind (arith, RowsOk, default_rows_keep)

all_defaults_keep : (c : List Rule) → Each DefaultOk c → Each DefaultKeeps c
all_defaults_keep [] h = tt
all_defaults_keep (a ∷ c) h = (default_keeps a h.0, all_defaults_keep c h.1)

-- ---- a command

abbrev ShapeOk : Shape → Type 0
ShapeOk s = Each (Keeps RowsOk s.args_override_self) s.rules × Each DefaultOk s.rules

level_keeps : (s : Shape) (words : List Text) → ShapeOk s
    → level_fault s [] nothing_held words false [] ≡ [] → RowsOk (rows_after s.rules [] words)
level_keeps s words ok e =
    let p = nothing _ _ e in
    let q = nothing _ _ p.1 in
    let end = (walk s.rules [] nothing_held words).held in
    defaults_keep RowsOk s.rules _ (all_defaults_keep s.rules ok.1) (settle_keeps RowsOk s [] ok.0 end q.0 (walk_keeps RowsOk s [] ok.0 words (walk_from nothing_held) p.0 tt))

shapes : Each ShapeOk (built celbpf_app).subs
unfolding celbpf_app with_commands commands command file_rule option_rule required_option_rule steps_rule
shapes = grind (arith, with_keeps, set_keeps, values_within, nothing)

-- ---- a command line

found_so : {X : Type 0} (Q : X → Type 0) (p : X → Bool) (c : List X) → Each Q c
    → AtOption (λ x. Q x × (p x ≡ true)) (find p c)
found_so Q p [] h = tt
found_so Q p (x ∷ xs) h = grind (arith, found_so Q p xs h.1)

small : (v : Text) → Within v → digits_value 10 (without_leading_plus v) ≤ step_limit
small v w = grind arith

written_within : (t : Text) → digits_value 10 t ≤ step_limit
    → unwrap_or (number_written t) default_steps ≤ step_limit
written_within t h = grind arith

of_values : (how : Reading) (vs : List Text) → Each Within vs → how ≡ reading.AsWritten
    → unwrap_or (number_of (option_map (read_as how) (slice_get vs 0))) default_steps ≤ step_limit
unfolding number_of
of_values how [] h is = omega arith
of_values how (v ∷ vs) h is = rw is (written_within (without_leading_plus v) (small v h.0))

of_row : (o : Option Row) → AtOption (λ r. RowOk r × (bytes_eq r.id (codes "steps") ≡ true)) o
    → unwrap_or (number_of (option_and_then row_text o)) default_steps ≤ step_limit
unfolding number_of
of_row o h = grind (arith, of_values)

of_rows : (rows : List Row) → RowsOk rows
    → unwrap_or (number_of (one_of (codes "steps") rows)) default_steps ≤ step_limit
of_rows rows g = of_row (find (λ r. bytes_eq r.id (codes "steps")) rows) (found_so RowOk (λ r. bytes_eq r.id (codes "steps")) rows g)

of_order_named : (name : Text) (rows : List Row) → RowsOk rows → IsWithinLimits (order_named name rows)
unfolding compile_in review_in run_image_in assemble_in list_in debug_in
of_order_named name rows g = grind (arith, of_rows)

of_shape : (o : Option Shape) (words : List Text) → AtOption ShapeOk o
    → option_map_or (λ s. level_fault s [] nothing_held words false []) o [] ≡ []
    → AtOption (λ q. RowsOk q.1) (option_map (λ s. rows_at s words) o)
of_shape o words ok e = grind (arith, level_keeps)

of_stop : (a : App) (stop : Option (Text × List Text)) → Each ShapeOk a.subs
    → entered_fault a stop ≡ [] → AtOption (λ q. RowsOk q.1) (entered_of a stop)
of_stop a None ok e = tt
of_stop a (Some p) ok e = of_shape (find (λ s. answers_to p.0 (label_of s)) a.subs) p.1 (found ShapeOk (λ s. answers_to p.0 (label_of s)) a.subs ok) e

of_words : (words : List Text) → faults words ≡ [] → AtOption (λ q. RowsOk q.1) (entered words)
unfolding faults entered
of_words words e = let p = nothing _ _ e in of_stop (built celbpf_app) _ shapes (nothing _ _ p.1).0

-- the limit of steps is the number of its word
digits_same : (t : List ℕ) → list_all (λ d. nat_lt (digit_value d) 10) t ≡ are_digits t
digits_same [] = refl
digits_same (c ∷ cs) = ap (λ (b : Bool). nat_lt (digit_value c) 10 && b) (digits_same cs)

number_in_range : (v : Text) → Within v → unwrap_or (number_written (without_leading_plus v)) default_steps ≡ digits_value 10 (without_leading_plus v)
number_in_range v w = grind (arith, digits_same)

limit_of_values : (how : Reading) (vs : List Text) → Each Within vs → how ≡ reading.AsWritten
    → unwrap_or (number_of (option_map (read_as how) (slice_get vs 0))) default_steps
    ≡ option_map_or (λ t. digits_value 10 (without_leading_plus t)) (option_map (read_as how) (slice_get vs 0)) default_steps
unfolding number_of
limit_of_values how [] h is = refl
limit_of_values how (v ∷ vs) h is = rw is (number_in_range v h.0)

limit_of_row : (o : Option Row) → AtOption (λ r. RowOk r × (bytes_eq r.id (codes "steps") ≡ true)) o
    → unwrap_or (number_of (option_and_then row_text o)) default_steps
    ≡ option_map_or (λ t. digits_value 10 (without_leading_plus t)) (option_and_then row_text o) default_steps
unfolding number_of
limit_of_row None h = refl
limit_of_row (Some r) h = limit_of_values r.reading r.values (h.0 h.1).0 (h.0 h.1).1

limit_of_rows : (rows : List Row) → RowsOk rows
    → unwrap_or (number_of (one_of (codes "steps") rows)) default_steps
    ≡ option_map_or (λ t. digits_value 10 (without_leading_plus t)) (one_of (codes "steps") rows) default_steps
limit_of_rows rows g = limit_of_row (find (λ r. bytes_eq r.id (codes "steps")) rows) (found_so RowOk (λ r. bytes_eq r.id (codes "steps")) rows g)

limit_of_entered : (o : Option (Text × List Row)) (p : Text × List Row) → AtOption (λ q. RowsOk q.1) o → o ≡ Some p
    → unwrap_or (number_of (one_of (codes "steps") p.1)) default_steps
    ≡ option_map_or (λ t. digits_value 10 (without_leading_plus t)) (one_of (codes "steps") p.1) default_steps
limit_of_entered o p h is = limit_of_rows p.1 (subst (AtOption (λ q. RowsOk q.1)) is h)

pub limit_is_read : (words : List Text) (p : Text × List Row) → faults words ≡ [] → entered words ≡ Some p
    → unwrap_or (number_of (one_of (codes "steps") p.1)) default_steps
    ≡ option_map_or (λ t. digits_value 10 (without_leading_plus t)) (one_of (codes "steps") p.1) default_steps
limit_is_read words p taken is = limit_of_entered (entered words) p (of_words words taken) is

of_order : (o : Option (Text × List Row)) → AtOption (λ q. RowsOk q.1) o
    → AtOption IsWithinLimits (order_in o)
of_order o h = grind (arith, of_order_named)

-- the order that is returned is within the limits
pub within_limits : (words : List Text) (r : Result CodeOrder OrderError) → OrderReturns words r
    → IfOk r (λ o. IsWithinLimits (order_view o))
within_limits words r h = grind (arith, of_words, of_order, AtOption)
