-- Proof obligations of `method` (src/forming.rt).
use Rattle.wide_reader.proofs.Prelude.{◌≡◌, ℕ, List, length, arith, map, true, false, Some, sym, ◌∙◌, subst, string_bytes, IfOk-weaker, AllocError, CodeWide, view, wides, method_of}
use Rattle.wide_reader.specs.Tree as tree
use Rattle.wide_reader.specs.Forms.{form_of, formed}
use Rattle.wide_reader.specs.Shapes.{has_names}
use Rattle.wide_reader.proofs.Formed.{are_arguments, method_kept, method_left, method_formed}
use Rattle.wide_reader.proofs.forming.method.Goals as goal

pub returns-in_default : goal.returns-in_default
returns-in_default c =
    let items = c.args.arguments.items in
    let len : c.len.result ≡ length items = omega (arith, c.len.ensures, c.args.arguments.ok.0) in
    let found = c.in_default.ensures ∙ (λ j. form_of (c.as_str.ensures.value j) (len j)) in
    IfOk-weaker {X = CodeWide} {Y = AllocError} c.method.result
    (λ d. view d ≡ tree.method (view c.args.of) (string_bytes c.args.name) (wides (map view items)))
    (λ d. view d ≡ method_of (view c.args.of) (string_bytes c.args.name) (wides (map view items)))
    (λ d h. h ∙ method_kept (view c.args.of) (string_bytes c.args.name) items found) c.method.ensures

pub formed-requires : goal.formed-requires
formed-requires c =
    let items = c.args.arguments.items in
    let len : c.len.result ≡ length items = omega (arith, c.len.ensures, c.args.arguments.ok.0) in
    let found = c.in-Some.ensures ∙ (λ j. form_of (c.as_str.ensures.value j) (len j)) in
    are_arguments (string_bytes c.args.name) c.in-Some.form items found
    (subst (λ (xs : List CodeWide). has_names c.in-Some.form (wides (map view xs)) ≡ true) c.as_slice.ensures.value
    (sym c.has_names.ensures ∙ c.if-has_names.true))

pub returns-then-has_names : goal.returns-then-has_names
returns-then-has_names c =
    let items = c.args.arguments.items in
    let len : c.len.result ≡ length items = omega (arith, c.len.ensures, c.args.arguments.ok.0) in
    let found = c.in-Some.ensures ∙ (λ j. form_of (c.as_str.ensures.value j) (len j)) in
    IfOk-weaker {X = CodeWide} {Y = AllocError} c.formed.result
    (λ d. (n : List ℕ) → view d ≡ formed (Some c.in-Some.form) (view c.args.of) n (wides (map view items)))
    (λ d. view d ≡ method_of (view c.args.of) (string_bytes c.args.name) (wides (map view items)))
    (λ d h. h (string_bytes c.args.name) ∙ method_formed (view c.args.of) (string_bytes c.args.name) items c.in-Some.form found) c.formed.ensures

pub returns-else-has_names : goal.returns-else-has_names
returns-else-has_names c =
    let items = c.args.arguments.items in
    let len : c.len.result ≡ length items = omega (arith, c.len.ensures, c.args.arguments.ok.0) in
    let found = c.in-Some.ensures ∙ (λ j. form_of (c.as_str.ensures.value j) (len j)) in
    let without = subst (λ (xs : List CodeWide). has_names c.in-Some.form (wides (map view xs)) ≡ false) c.as_slice.ensures.value
    (sym c.has_names.ensures ∙ c.if-has_names.false) in
    IfOk-weaker {X = CodeWide} {Y = AllocError} c.method-else-has_names.result
    (λ d. view d ≡ tree.method (view c.args.of) (string_bytes c.args.name) (wides (map view items)))
    (λ d. view d ≡ method_of (view c.args.of) (string_bytes c.args.name) (wides (map view items)))
    (λ d h. h ∙ method_left (view c.args.of) (string_bytes c.args.name) items c.in-Some.form found without) c.method-else-has_names.ensures
