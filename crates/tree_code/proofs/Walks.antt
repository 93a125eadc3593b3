-- The code of an expression, from the code of its parts, as the recursion finds them.
use Rattle.tree_code.proofs.Prelude.{◌≡◌, ℕ, suc, ◌+◌, ◌*◌, ◌<◌, ◌≤◌, List, [], ◌∷◌, ◌++◌, length, map, drop, get_or, Result, IfOk, refl, sym, ap, ◌∙◌, append_assoc, add-one, drop-cons, arith, zero, min, true, false, Option, Some, None, option_map, string_bytes, bytes_eq, Bor, AllocError, Global, Vec, Insn, Core, core_view, cores, core_entries, core_pair, CodeCore, nodes, item_code, entry_code, kept_size, map_where_code, FrameUse, with_name, size, code_of, items_code, entries_code, function_code, leaf_of, method_function_code, test_code, no_code, routine_named, words_of, words_step, FrameWords, fold-roll-FrameWords, rolls-Within, declaration, routines_of, part_slots_per_node, Callee, function_in, test_in, lists_view, nothing_kept, path_view, rolls-Keeping, rolls-Outside, with_lists, with_path, append-nil}
use Rattle.cel_macros.specs.CoreTree as core
use Rattle.tree_code.specs.declared.frame_words.FrameWords as frame
use Rattle.tree_code.specs.declared.path.Path.{Path}
use Rattle.tree_code.proofs.Lengths.{short_code}
use Rattle.cel_types.specs.declared.variable.Variable.{Variable}

-- the code of few nodes is short enough for 16-bit jumps over it
pub near_code : (e : Core) (ts : List (List ℕ)) (rs : List (List ℕ × ℕ)) (ws : FrameUse) (k p : ℕ) (code : List Insn) → code ≡ code_of e ts rs ws k p → size code + 8 ≤ part_slots_per_node * nodes e
near_code e ts rs ws k p code h = rw h (short_code e ts rs ws k p)

-- a call that gives this code gives each equal code
pub same_code : (r : Result (Vec Insn Global) AllocError) (a b : List Insn) → a ≡ b → IfOk r (λ v. v.items ≡ a) → IfOk r (λ v. v.items ≡ b)
same_code r a b e h = grind arith

-- the words inside one more macro
pub words_within : (name : Bor (List ℕ)) (k : ℕ) (outer : Bor FrameWords) → words_of (frame.Within name k outer) ≡ with_name name.now k (words_of outer.now)
words_within name k outer = ap words_of (sym (rolls-Within name k outer)) ∙ fold-roll-FrameWords FrameUse words_step _

-- the words outside all macros
pub words_outside : (lists : Bor (List (Bor (List CodeCore)))) → words_of (frame.Outside lists) ≡ with_lists (lists_view lists.now) nothing_kept
words_outside lists = ap words_of (sym (rolls-Outside lists)) ∙ fold-roll-FrameWords FrameUse words_step _

pub words_keeping : (path : Path) (lists : Bor (List (Bor (List CodeCore)))) → words_of (frame.Keeping path lists) ≡ with_lists (lists_view lists.now) (with_path (path_view path))
words_keeping path lists = ap words_of (sym (rolls-Keeping path lists)) ∙ fold-roll-FrameWords FrameUse words_step _

-- the rest of a list from a place on
pub here : {A : Type 0} (xs : List A) (i : ℕ) (x : A) → i < length xs → x ≡ get_or xs i x → drop i xs ≡ x ∷ drop (i + 1) xs
here xs i x lt is = rw (add-one, drop-cons xs i x) (ap (λ y. y ∷ drop (suc i) xs) (sym is))

module _ (ts : List (List ℕ)) (rs : List (List ℕ × ℕ)) (ws : FrameUse) (k p : ℕ) where
  pub call_of_one : (n : Callee) (items : List CodeCore) (x : CodeCore) (of : List Insn) → 1 ≤ length items → length items < 2 → x ≡ get_or items 0 x → of ≡ code_of (core_view x) ts rs ws k p → function_code (function_in n) (leaf_of (core_view x) ws) of ≡ code_of (core.call n (cores (map core_view items))) ts rs ws k p
  unfolding code_of
  call_of_one n (y ∷ []) x of some few is h = grind arith
  call_of_one n _ x of some few is h = absurd (omega arith)

  pub call_of_others : (n : Callee) (items : List CodeCore) → (length items ≡ 1 → ⊥) → no_code ≡ code_of (core.call n (cores (map core_view items))) ts rs ws k p
  unfolding code_of
  call_of_others n (y ∷ []) other = absurd (other refl)
  call_of_others n _ other = refl

  pub method_of_none : (a : Core) (n : Callee) (items : List CodeCore) (of : List Insn) → length items < 1 → of ≡ code_of a ts rs ws k p
      → method_function_code (function_in n) (leaf_of a ws) of ≡ code_of (core.method a n (cores (map core_view items))) ts rs ws k p
  unfolding code_of
  method_of_none a n [] of few h = ap (method_function_code (function_in n) (leaf_of a ws)) h
  method_of_none a n (y ∷ items) of few h = absurd (omega arith)

  pub method_of_one : (a : Core) (n : Callee) (items : List CodeCore) (x : CodeCore) (left right : List Insn) → 1 ≤ length items → length items < 2
      → x ≡ get_or items 0 x → left ≡ code_of a ts rs ws k p → right ≡ code_of (core_view x) ts rs ws (k + 1) (p + kept_size (leaf_of a ws) left)
      → test_code (test_in n) (leaf_of a ws) left (leaf_of (core_view x) ws) right k ≡ code_of (core.method a n (cores (map core_view items))) ts rs ws k p
  unfolding code_of
  method_of_one a n (y ∷ []) x left right some few is hl hr = grind arith
  method_of_one a n _ x left right some few is hl hr = absurd (omega arith)

  pub method_of_others : (a : Core) (n : Callee) (items : List CodeCore) → 2 ≤ length items → no_code ≡ code_of (core.method a n (cores (map core_view items))) ts rs ws k p
  unfolding code_of
  method_of_others a n (y ∷ z ∷ items) many = refl
  method_of_others a n _ many = absurd (omega arith)

  pub fold_map_of : (n : List ℕ) (r e t : Core) (range predicate transform : List Insn) (i j : ℕ) → range ≡ code_of r ts rs ws k p → i ≡ size range → predicate ≡ code_of e ts rs (with_name n (k + 4) ws) (k + 5) (p + i + 17) → j ≡ size predicate → transform ≡ code_of t ts rs (with_name n (k + 4) ws) (k + 5) (p + i + 17 + j + 2) → map_where_code k range predicate transform ≡ code_of (core.fold_map n r e t) ts rs ws k p
  unfolding code_of
  fold_map_of n r e t range predicate transform i j hr hi he hj ht = grind arith

  drop_end : (parts : List CodeCore) (i : ℕ) → length parts ≤ i → drop i parts ≡ []
  drop_end [] zero over = refl
  drop_end [] (suc i) over = refl
  drop_end (x ∷ parts) zero over = absurd (omega arith)
  drop_end (x ∷ parts) (suc i) over = drop_end parts i (omega arith)

  -- no item of a list is left
  pub items_end : (parts : List CodeCore) (i : ℕ) (items whole : List Insn) → length parts ≤ i → items ++ items_code (cores (map core_view (drop i parts))) ts rs ws k p ≡ whole → items ≡ whole
  unfolding code_of
  items_end parts i items whole over so_far =
      sym (append-nil items) ∙ ap (λ (l : List CodeCore). items ++ items_code (cores (map core_view l)) ts rs ws k p) (sym (drop_end parts i over)) ∙ so_far

  -- one more item of a list
  pub item_more : (parts : List CodeCore) (i : ℕ) (x : CodeCore) (before after item whole : List Insn) (n : ℕ) → i < length parts → x ≡ get_or parts i x → item ≡ code_of (core_view x) ts rs ws (k + 1) p → n ≡ size item → after ≡ before ++ item_code item k → before ++ items_code (cores (map core_view (drop i parts))) ts rs ws k p ≡ whole → after ++ items_code (cores (map core_view (drop (i + 1) parts))) ts rs ws k (p + (n + 4)) ≡ whole
  unfolding code_of
  item_more parts i x before after item whole n lt is code count grown h = grind (arith, append_assoc, here)

  -- one more entry of a map
  pub entry_more : (pairs : List (CodeCore × CodeCore)) (i : ℕ) (x : CodeCore × CodeCore) (before after key entry whole : List Insn) (n m : ℕ) → i < length pairs → x ≡ get_or pairs i x → key ≡ code_of (core_view x.0) ts rs ws (k + 1) p → n ≡ size key → entry ≡ code_of (core_view x.1) ts rs ws (k + 2) (p + n + 1) → m ≡ size entry → after ≡ before ++ entry_code key entry k → before ++ entries_code (core_entries (map core_pair (drop i pairs))) ts rs ws k p ≡ whole → after ++ entries_code (core_entries (map core_pair (drop (i + 1) pairs))) ts rs ws k (p + n + 1 + m + 5) ≡ whole
  unfolding code_of
  entry_more pairs i x before after key entry whole n m lt is first first_count second second_count grown h = grind (arith, append_assoc, here)

-- ---- the first variable with a name that has a routine

-- what is found from a place on, counted from the first
abbrev pub counted : ℕ → Option (ℕ × ℕ) → Option (ℕ × ℕ)
counted i found = option_map (λ f. (i + f.0, f.1)) found

later : (i : ℕ) (found : Option (ℕ × ℕ)) → counted i (option_map (λ f. (suc f.0, f.1)) found) ≡ counted (i + 1) found
later i found = grind arith

-- the rest from a place on begins with the variable there and its routine
routine_here : (variables : List Variable) (slots : List ℕ) (i : ℕ) (v : Variable) → i < length variables → i < length slots → v ≡ get_or variables i v → drop i (routines_of (map declaration variables) slots) ≡ (string_bytes v.name, get_or slots i 0) ∷ drop (suc i) (routines_of (map declaration variables) slots)
routine_here (w ∷ variables) (s ∷ slots) zero v lt in_slots is = grind arith
routine_here (w ∷ variables) (s ∷ slots) (suc i) v lt in_slots is = routine_here variables slots i v (omega arith) (omega arith) is
routine_here _ _ i v lt in_slots is = absurd (omega arith)

pub found_here : (n : List ℕ) (variables : List Variable) (slots : List ℕ) (i : ℕ) (v : Variable) → i < length variables → i < length slots
    → v ≡ get_or variables i v → bytes_eq (string_bytes v.name) n ≡ true
    → counted i (routine_named n (drop i (routines_of (map declaration variables) slots))) ≡ Some (i, get_or slots i 0)
found_here n variables slots i v lt in_slots is same = grind (arith, routine_here)

pub found_later : (n : List ℕ) (variables : List Variable) (slots : List ℕ) (i : ℕ) (v : Variable) → i < length variables → i < length slots → v ≡ get_or variables i v → bytes_eq (string_bytes v.name) n ≡ false → counted (i + 1) (routine_named n (drop (i + 1) (routines_of (map declaration variables) slots))) ≡ counted i (routine_named n (drop i (routines_of (map declaration variables) slots)))
found_later n variables slots i v lt in_slots is other = grind (arith, routine_here, later)

-- after the last one nothing is left
none_left : (variables : List Variable) (slots : List ℕ) (i : ℕ) → min (length variables) (length slots) ≤ i
    → drop i (routines_of (map declaration variables) slots) ≡ []
none_left [] slots zero h = refl
none_left (w ∷ variables) [] zero h = refl
none_left (w ∷ variables) (s ∷ slots) zero h = absurd (omega arith)
none_left (w ∷ variables) (s ∷ slots) (suc i) h = none_left variables slots i (omega arith)
none_left _ _ _ h = refl

pub found_nowhere : (n : List ℕ) (variables : List Variable) (slots : List ℕ) (i : ℕ) → min (length variables) (length slots) ≤ i
    → counted i (routine_named n (drop i (routines_of (map declaration variables) slots))) ≡ None
found_nowhere n variables slots i h = grind (arith, none_left)

pub ruleset found = (bytes_eq, string_bytes, found_here, found_later, found_nowhere)
