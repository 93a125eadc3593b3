-- Lists made from others.
use Rattle.value_table.proofs.Prelude.{◌≡◌, ℕ, suc, ◌+◌, ◌-◌, ◌<◌, ◌≤◌, List, [], ◌∷◌, ◌++◌, length, refl, ap, arith, subst, max, Option, Some, IfSome, Value, item, list_of, items_push, items_join, items_depth, IsOrdered, saturated, push_of, join_of, push_ordered, join_ordered, push_depth, join_depth, value_in, items_at, refs_at, meaning, AreBelow, IsRange, IsCell, CellFound, HoldsItems, commas, Cell, Content, Backings}
use Rattle.value_store.specs.Value as kind
use Rattle.value_table.proofs.Heads.{taken_long}
use Rattle.value_table.proofs.TextLengths.{push_long, join_long, list_long}
use Rattle.value_table.specs.declared.content.Content.TheVariants as content

-- a cell that can be added, and its value
pub record Made (bs : Backings) (vs : List Value) (c : Cell) (due : Option Value) : Type 0 where
  pub cell : IsCell bs vs c
  pub value : due ≡ Some (meaning bs vs c.content)

pub items_length : (vs : List Value) (rs : List ℕ) → length (list_of (items_at vs rs)) ≡ length rs
items_length vs [] = refl
items_length vs (r ∷ rs) = ap suc (items_length vs rs)

pub below_le : (i j : ℕ) (rs : List ℕ) → i ≤ j → AreBelow i rs → AreBelow j rs
below_le i j [] h b = tt
below_le i j (r ∷ rs) h b = let l = b.0 in (omega (arith, l, h), below_le i j rs h b.1)

pub below_append : (i : ℕ) (rs ss : List ℕ) → AreBelow i rs → AreBelow i ss → AreBelow i (rs ++ ss)
below_append i [] ss b d = d
below_append i (r ∷ rs) ss b d = (b.0, below_append i rs ss b.1 d)

pub items_more : (vs : List Value) (rs : List ℕ) (x : ℕ) → items_at vs (rs ++ x ∷ []) ≡ items_push (items_at vs rs) (value_in vs x)
items_more vs [] x = refl
items_more vs (r ∷ rs) x = ap (item (value_in vs r)) (items_more vs rs x)

items_both : (vs : List Value) (rs ss : List ℕ) → items_at vs (rs ++ ss) ≡ items_join (items_at vs rs) (items_at vs ss)
items_both vs [] ss = refl
items_both vs (r ∷ rs) ss = ap (item (value_in vs r)) (items_both vs rs ss)

pub if_made : (P : Value → Type 0) (o : Option Value) (v : Value) → o ≡ Some v → IfSome o P → P v
if_made P o v e h = subst (λ (p : Option Value). IfSome p P) e h

-- the list that a cell represents
pub record ListFound (bs : Backings) (vs : List Value) (l b n deep : ℕ) : Type 0 where
  pub inside : l < length vs
  pub range : IsRange bs.lists l b n
  pub is : value_in vs l ≡ kind.list (items_at vs (refs_at bs.lists b n))
  pub depth : deep ≡ 1 + items_depth (items_at vs (refs_at bs.lists b n))
  pub shallow : deep ≤ l + 1
  pub ordered : IsOrdered (value_in vs l)
  pub count : length (list_of (items_at vs (refs_at bs.lists b n))) ≡ n

pub list_found : (bs : Backings) (vs : List Value) (l b n : ℕ) (c : Cell) → CellFound bs vs l c → c.content ≡ content.List b n → ListFound bs vs l b n c.depth
list_found bs vs l b n c f e = grind (arith, items_length, taken_long)

-- a list's text has its two brackets
pub list_brackets : (bs : Backings) (vs : List Value) (l b n : ℕ) (c : Cell) → CellFound bs vs l c → c.content ≡ content.List b n → 2 ≤ c.json
list_brackets bs vs l b n c f e = grind (arith, list_long)

-- a cell that represents a list
pub record ListCell (bs : Backings) (vs : List Value) (l b n : ℕ) : Type 0 where
  pub cell : Cell
  pub found : CellFound bs vs l cell
  pub is : cell.content ≡ content.List b n

-- equal measures may replace each other in a cell
pub made_by : {bs : Backings} {vs : List Value} {x : Content} {d e j k : ℕ} {due : Option Value} → d ≡ e → j ≡ k
    → Made bs vs (record { content = x; depth = e; json = k }) due → Made bs vs (record { content = x; depth = d; json = j }) due
made_by deep long made = rw (deep, long) made

-- lists made from the lists at two places
module _ (bs cs : Backings) (vs : List Value) where
  pub list_pushed : (l x b n c : ℕ) (xc : Cell) (list : ListCell bs vs l b n) → CellFound bs vs x xc → HoldsItems cs.lists c (n + 1) (refs_at bs.lists b n ++ x ∷ [])
      → Made cs vs (record { content = content.List c (n + 1); depth = max list.cell.depth (xc.depth + 1); json = saturated (list.cell.json + commas n 1 + xc.json) }) (push_of (value_in vs l) (value_in vs x))
  list_pushed l x b n c xc list fx h =
      let lc = list.cell in
      let fl = list.found in
      let e = list.is in
      grind (arith, list_found, items_more, below_le, if_made, push_ordered, below_append, push_depth, push_long)

  pub lists_joined : (l x b n b' n' c : ℕ) (first : ListCell bs vs l b n) (second : ListCell bs vs x b' n') → HoldsItems cs.lists c (n + n') (refs_at bs.lists b n ++ refs_at bs.lists b' n')
      → Made cs vs (record { content = content.List c (n + n'); depth = max first.cell.depth second.cell.depth; json = saturated (first.cell.json + commas n n' + (second.cell.json - 2)) }) (join_of (value_in vs l) (value_in vs x))
  lists_joined l x b n b' n' c first second h =
      let lc = first.cell in
      let xc = second.cell in
      let fl = first.found in
      let fx = second.found in
      let e = first.is in
      let e' = second.is in
      grind (arith, list_found, items_both, list_long, below_le, if_made, join_ordered, below_append, join_depth, join_long)
