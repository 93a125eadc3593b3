-- Lists of the same literals have the same value; and the loops over lists and their items.
use Rattle.tree_code.proofs.Prelude.{◌≡◌, ℕ, zero, suc, ◌+◌, ◌<◌, ◌≤◌, ℤ, Bool, true, false, ◌&&◌, and_from, List, [], ◌∷◌, length, map, take, drop, get_or, Option, Some, None, option_map, slice_get, if◌then◌else◌, refl, sym, ap, ◌∙◌, subst, arith, bytes_eq, bytes_decides, eqb-true, Bor, CodeCore, Core, Cores, CoreEntries, no_cores, more_cores, core_view, cores, Tree, Trees, no_trees, more_trees, expanded, expanded_trees, selection, is_variables, Environment, meaning, meanings, literal_of, literal_values, clear, clear_code, list_word, are_literals, is_literal, kept_place, list_limit, lists_view, same_item, same_items, same_literal, int_equal, truth_equal, IfSome, Insn, FrameUse, frame_words, size, list_code, items_code, nodes_of, node_limit, jump_limit, ◌++◌, length-map, map-append, pos, negsuc}
use Rattle.cel_reader.specs.Tree as tree
use Rattle.cel_macros.specs.CoreTree as core
use Rattle.tree_code.proofs.Lengths.{short_list}
use Rattle.tree_code.proofs.Walks.{here}

-- ---- the same literals have the same value

int_is : (a b : ℤ) → int_equal a b ≡ true → a ≡ b
int_is (pos a) (pos b) h = ap pos (eqb-true a b h)
int_is (negsuc a) (negsuc b) h = ap negsuc (eqb-true a b h)
int_is _ _ h = absurd (cc)

truth_is : (a b : Bool) → truth_equal a b ≡ true → a ≡ b
truth_is true true h = refl
truth_is false false h = refl
truth_is _ _ h = absurd (cc)

literal_is : (a b : tree.Literal) → same_literal a b ≡ true → a ≡ b
literal_is (tree.int a) (tree.int b) h = ap tree.int (int_is a b h)
literal_is (tree.text a) (tree.text b) h = ap tree.text ((bytes_decides a b).0 h)
literal_is (tree.truth a) (tree.truth b) h = ap tree.truth (truth_is a b h)
literal_is tree.null tree.null h = refl
literal_is _ _ h = absurd (cc)

-- an item that is the same literal as an expression has its value
item_means : (a : Core) (e : Tree) (more : Cores) (rest : Trees) (env : Environment) → same_item a (expanded e) ≡ true → literal_values more ≡ meanings rest env
    → literal_values (more_cores a more) ≡ meanings (more_trees e rest) env
unfolding expanded meaning
item_means (core.literal l) (tree.literal m) more rest env h e =
    (λ j. literal_of (literal_is l m h j) ∷ e j)
item_means (core.literal l) (tree.select a f) more rest env h g = grind arith
item_means (core.literal l) (tree.call n (more_trees a no_trees)) more rest env h g = grind arith
item_means (core.literal l) (tree.method a n (more_trees x (more_trees p no_trees))) more rest env h g = grind arith
item_means (core.literal l) (tree.method a n (more_trees x (more_trees p (more_trees t no_trees)))) more rest env h g = grind arith
item_means _ _ more rest env h g = absurd (cc)

first_same : (a b : Bool) → (a && b) ≡ true → a ≡ true
first_same true b h = refl
first_same false b h = absurd (cc)

second_same : (a b : Bool) → (a && b) ≡ true → b ≡ true
second_same true b h = h
second_same false b h = absurd (cc)

pub items_mean : (list : Cores) (items : Trees) (env : Environment) → same_items list (expanded_trees items) ≡ true → literal_values list ≡ meanings items env
unfolding expanded meaning
items_mean no_cores no_trees env h = refl
items_mean (more_cores a more) (more_trees e rest) env h =
    item_means a e more rest env (first_same (same_item a (expanded e)) (same_items more (expanded_trees rest)) h)
    (items_mean more rest env (second_same (same_item a (expanded e)) (same_items more (expanded_trees rest)) h))
items_mean _ _ env h = absurd (cc)

-- ---- a kept list

-- the list with this number has the same items
pub record Kept (items : Cores) (lists : List Cores) (i : ℕ) : Type 0 where
  pub list : Cores
  pub stands : slice_get lists i ≡ Some list
  pub same : same_items list items ≡ true
  pub within : i < length lists

kept_first : (items list : Cores) (lists : List Cores) (i : ℕ) → same_items list items ≡ true → Some 0 ≡ Some i → Kept items (list ∷ lists) i
kept_first items list lists zero same e = record { list = list; stands = refl; same = same; within = omega arith }
kept_first items list lists (suc i) same e = absurd (cc)

kept_later : (items list : Cores) (lists : List Cores) (o : Option ℕ) (i : ℕ) → ((j : ℕ) → o ≡ Some j → Kept items lists j) → option_map suc o ≡ Some i → Kept items (list ∷ lists) i
kept_later items list lists None i more e = absurd (cc)
kept_later items list lists (Some j) zero more e = absurd (cc)
kept_later items list lists (Some j) (suc i) more e =
    let same : j ≡ i = cc in let k = more i (ap Some same) in record { list = k.list; stands = k.stands; same = k.same; within = (let w = k.within in omega arith) }

kept_by : (items list : Cores) (lists : List Cores) (b : Bool) (i : ℕ) → same_items list items ≡ b → ((j : ℕ) → kept_place items lists ≡ Some j → Kept items lists j)
    → (if b then Some 0 else option_map suc (kept_place items lists)) ≡ Some i → Kept items (list ∷ lists) i
kept_by items list lists true i same more e = kept_first items list lists i same e
kept_by items list lists false i same more e = kept_later items list lists (kept_place items lists) i more e

pub kept_is : (items : Cores) (lists : List Cores) (i : ℕ) → kept_place items lists ≡ Some i → Kept items lists i
kept_is items [] i e = absurd (cc)
kept_is items (list ∷ lists) i e = kept_by items list lists (same_items list items) i refl (kept_is items lists) e

-- the word of a kept list is in the frame
pub word_inside : (items : Cores) (lists : List Cores) (kept : Option ℕ) → kept ≡ kept_place items lists → list_word (length lists) ≤ frame_words → IfSome kept (λ i. list_word i < frame_words)
word_inside items lists None e inside = tt
word_inside items lists (Some i) e inside = let within = (kept_is items lists i (sym e)).within in omega arith

-- the code that makes a list is short enough for a jump over it
pub near_list : (es : Cores) (ts : List (List ℕ)) (rs : List (List ℕ × ℕ)) (ws : FrameUse) (k p : ℕ) (items made : List Insn) → made ≡ list_code items k
    → items ≡ items_code es ts rs ws k (p + 2) → 1 + nodes_of es ≤ node_limit → size made + 1 < jump_limit
near_list es ts rs ws k p items made is code few =
    let same : made ≡ list_code (items_code es ts rs ws k (p + 2)) k = is ∙ ap (λ (l : List Insn). list_code l k) code in
    let long = ap size same in
    let short = short_list es ts rs ws k p in
    omega (arith, long, short, few)

-- ---- loops

-- the words of lists are emptied
pub clears : (n : ℕ) (a b d f : Insn) → n ≤ list_limit → a ≡ clear (list_word 0) → b ≡ clear (list_word 1) → d ≡ clear (list_word 2) → f ≡ clear (list_word 3)
    → take n (a ∷ b ∷ d ∷ f ∷ []) ≡ clear_code 0 n
clears zero a b d f few ea eb ed ef = refl
clears (suc zero) a b d f few ea eb ed ef = λ j. ea j ∷ []
clears (suc (suc zero)) a b d f few ea eb ed ef = λ j. ea j ∷ eb j ∷ []
clears (suc (suc (suc zero))) a b d f few ea eb ed ef = λ j. ea j ∷ eb j ∷ ed j ∷ []
clears (suc (suc (suc (suc zero)))) a b d f few ea eb ed ef = λ j. ea j ∷ eb j ∷ ed j ∷ ef j ∷ []
clears (suc (suc (suc (suc (suc n))))) a b d f few ea eb ed ef = absurd (omega arith)

last_false : (a b : Bool) → false ≡ b → false ≡ (a && b)
last_false true b h = h
last_false false b h = refl

-- lists of different lengths differ
pub same_lengths : (a b : List CodeCore) → (length a ≡ length b → ⊥) → false ≡ same_items (cores (map core_view a)) (cores (map core_view b))
same_lengths [] [] h = absurd (h refl)
same_lengths (x ∷ a) [] h = refl
same_lengths [] (y ∷ b) h = refl
same_lengths (x ∷ a) (y ∷ b) h =
    last_false (same_item (core_view x) (core_view y)) (same_items (cores (map core_view a)) (cores (map core_view b))) (same_lengths a b (λ e. h (ap suc e)))

module _ (a b : List CodeCore) (i : ℕ) where
  abbrev Same : ℕ → Bool
  Same n = same_items (cores (map core_view (drop n a))) (cores (map core_view (drop n b)))

  module _ (x y : CodeCore) (in_a : i < length a) (in_b : i < length b) (at_a : x ≡ get_or a i x) (at_b : y ≡ get_or b i y) where
    both_here : Same i ≡ (same_item (core_view x) (core_view y) && Same (i + 1))
    both_here = λ j. same_items (cores (map core_view (here a i x in_a at_a j))) (cores (map core_view (here b i y in_b at_b j)))

    pub same_here : same_item (core_view x) (core_view y) ≡ true → Same (i + 1) ≡ Same i
    same_here h = sym (both_here ∙ ap (λ (t : Bool). t && Same (i + 1)) h)

    pub same_not : same_item (core_view x) (core_view y) ≡ false → false ≡ Same i
    same_not h = sym (both_here ∙ ap (λ (t : Bool). t && Same (i + 1)) h)

-- all items are the same at the end
pub same_end : (a b : List CodeCore) (i : ℕ) → length a ≤ i → length a ≡ length b → true ≡ same_items (cores (map core_view (drop i a))) (cores (map core_view (drop i b)))
same_end [] [] zero h e = refl
same_end [] [] (suc i) h e = refl
same_end (x ∷ a) (y ∷ b) zero h e = absurd (omega arith)
same_end (x ∷ a) (y ∷ b) (suc i) h e = same_end a b i (omega arith) (omega arith)
same_end _ _ i h e = absurd (omega arith)

pub ruleset same = (same_lengths, same_here, same_not, same_end)

-- all items from a place on are literals
module _ (items : List CodeCore) (i : ℕ) (x : CodeCore) (inside : i < length items) (at : x ≡ get_or items i x) where
  abbrev Literals : ℕ → Bool
  Literals n = are_literals (cores (map core_view (drop n items)))

  item_here : Literals i ≡ (is_literal (core_view x) && Literals (i + 1))
  item_here = ap (λ (l : List CodeCore). are_literals (cores (map core_view l))) (here items i x inside at)

  pub literal_here : is_literal (core_view x) ≡ true → Literals (i + 1) ≡ Literals i
  literal_here h = sym (item_here ∙ ap (λ (t : Bool). t && Literals (i + 1)) h)

  pub literal_not : is_literal (core_view x) ≡ false → false ≡ Literals i
  literal_not h = sym (item_here ∙ ap (λ (t : Bool). t && Literals (i + 1)) h)

pub literals_end : (items : List CodeCore) (i : ℕ) → length items ≤ i → true ≡ are_literals (cores (map core_view (drop i items)))
literals_end [] zero h = refl
literals_end [] (suc i) h = refl
literals_end (x ∷ items) zero h = absurd (omega arith)
literals_end (x ∷ items) (suc i) h = literals_end items i (omega arith)

pub ruleset literals = (literal_here, literal_not, literals_end)

-- what is found from a place on, counted from the first list
abbrev pub counted : ℕ → Option ℕ → Option ℕ
counted i found = option_map (λ n. i + n) found

later : (i : ℕ) (found : Option ℕ) → counted i (option_map suc found) ≡ counted (suc i) found
later i None = refl
later i (Some n) = ap Some (omega arith)

lists_here : (lists : List (Bor (List CodeCore))) (i : ℕ) (l : Bor (List CodeCore)) → i < length lists → l ≡ get_or lists i l
    → drop i (lists_view lists) ≡ cores (map core_view l.now) ∷ drop (suc i) (lists_view lists)
lists_here [] i l inside at = absurd (omega arith)
lists_here (m ∷ lists) zero l inside at = ap (λ (n : Bor (List CodeCore)). cores (map core_view n.now) ∷ lists_view lists) (sym at)
lists_here (m ∷ lists) (suc i) l inside at = lists_here lists i l (omega arith) at

module _ (items : Cores) (lists : List (Bor (List CodeCore))) (i : ℕ) (l : Bor (List CodeCore)) (inside : i < length lists) (at : l ≡ get_or lists i l) where
  abbrev Place : ℕ → Option ℕ
  Place n = kept_place items (drop n (lists_view lists))

  found_here : counted i (Place i) ≡ counted i (if same_items (cores (map core_view l.now)) items then Some 0 else option_map suc (Place (suc i)))
  found_here = ap (λ (ls : List Cores). counted i (kept_place items ls)) (lists_here lists i l inside at)

  pub place_here : same_items (cores (map core_view l.now)) items ≡ true → Some i ≡ counted i (Place i)
  place_here h =
      let none : i + 0 ≡ i = omega arith in
      sym (found_here ∙ ap (λ (b : Bool). counted i (if b then Some 0 else option_map suc (Place (suc i)))) h ∙ ap Some none)

  pub place_later : same_items (cores (map core_view l.now)) items ≡ false → counted (i + 1) (Place (i + 1)) ≡ counted i (Place i)
  place_later h =
      let next : suc i ≡ i + 1 = omega arith in
      sym (found_here ∙ ap (λ (b : Bool). counted i (if b then Some 0 else option_map suc (Place (suc i)))) h ∙ later i (Place (suc i)) ∙ ap (λ (n : ℕ). counted n (Place n)) next)

none_behind : (lists : List (Bor (List CodeCore))) (i : ℕ) → length lists ≤ i → drop i (lists_view lists) ≡ []
none_behind [] zero h = refl
none_behind [] (suc i) h = refl
none_behind (l ∷ lists) zero h = absurd (omega arith)
none_behind (l ∷ lists) (suc i) h = none_behind lists i (omega arith)

pub place_nowhere : (items : Cores) (lists : List (Bor (List CodeCore))) (i : ℕ) → length lists ≤ i → None ≡ counted i (kept_place items (drop i (lists_view lists)))
place_nowhere items lists i h = sym (ap (λ (ls : List Cores). counted i (kept_place items ls)) (none_behind lists i h))

pub ruleset places = (place_here, place_later, place_nowhere)

-- ---- lists as plain data

pub view_length : (lists : List (Bor (List CodeCore))) → length (lists_view lists) ≡ length lists
view_length lists = length-map lists (λ (l : Bor (List CodeCore)). cores (map core_view l.now))

pub view_more : (lists : List (Bor (List CodeCore))) (l : Bor (List CodeCore)) → lists_view (lists ++ l ∷ []) ≡ lists_view lists ++ cores (map core_view l.now) ∷ []
view_more lists l = map-append (λ (m : Bor (List CodeCore)). cores (map core_view m.now)) lists (l ∷ [])

pub view_taken : (n : ℕ) (lists : List (Bor (List CodeCore))) → lists_view (take n lists) ≡ take n (lists_view lists)
view_taken zero lists = refl
view_taken (suc n) [] = refl
view_taken (suc n) (l ∷ lists) = ap (λ (rest : List Cores). cores (map core_view l.now) ∷ rest) (view_taken n lists)

pub ruleset views = (view_length, view_more, view_taken)
