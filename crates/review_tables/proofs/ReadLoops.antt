-- The loops that read lists and maps, one turn at a time.
use Rattle.value_table.proofs.Prelude.{◌≡◌, ℕ, ◌-◌, ◌<◌, ◌≤◌, List, [], ◌∷◌, ◌++◌, length, true, option_map, Option, Some, None, sym, ap, subst, arith, Value, HasGrown, heap_values, IsHeap}
use Rattle.value_table.specs.declared.heap.Heap.{Heap}
use Rattle.json.specs.Token.{Token}
use Rattle.json.specs.Json.{parse_map, after_end_array, read_key, items, members, value}
use Rattle.json.proofs.Grammar.{read_key-shorter}
use Rattle.serde_json.specs.Data as json
use Rattle.serde_json.specs.Read.{max_depth, of_json, of_items, of_members, converted}
use Rattle.serde_json.specs.View as document
use Rattle.std.specs.BTreeMap.{insert_entry}
use Rattle.std.specs.Borrow.{Bor}
use Rattle.value_store.specs.Value as kind
use Rattle.review_tables.specs.Reading.{AddsPlaced, ReadsEntries, ReadsDocument, ReadsValue, AddsItem, pending_value, PlacedEntry, AreMembers, placed_entries}
use Rattle.review_tables.specs.declared.placed.Placed.{Placed}
use Rattle.review_tables.specs.declared.pending_list.PendingList.{PendingList}
use Rattle.review_tables.proofs.Conversion.{whole, document_read, document_and_more}
use Rattle.review_tables.proofs.Turns.{ItemsSoFar, MembersSoFar, items_begin, items_next, items_over, members_begin, members_next, members_over}
use Rattle.review_tables.proofs.PlacedValues.{RowStands, row_step, row_starts, row_ends, put_on}
use Rattle.review_tables.specs.Members.{str_cmp}
use Rattle.review_tables.proofs.PlacedMembers.{members_stay, member_put, members_are}

-- ---- lists

-- some items have been read; they began at `first`, and `now` remains
pub record ItemsRead (depth : ℕ) (first now : List Token) (vs : List Value) (pending : PendingList) : Type 0 where
  pub shorter : length now ≤ length first
  pub done : List json.Data
  pub so_far : ItemsSoFar depth first now done
  pub stands : RowStands vs pending done

pub items_start : (depth : ℕ) (first : List Token) (vs : List Value) (pending : PendingList) → pending.places.items ≡ [] → pending.size ≡ 1 → pending.whole ≡ true → ItemsRead depth first first vs pending
items_start depth first vs pending e n b = record { shorter = omega arith; done = []; so_far = items_begin depth first; stands = row_starts vs pending e n b }

pub items_turn : (depth : ℕ) (first now next : List Token) (old new : Heap) (p : Option Placed) (pending pending' : PendingList) → ItemsRead depth first now (heap_values old) pending
    → after_end_array now ≡ None → ReadsValue old new p (converted of_json (value depth now)) next → length next < length now → AddsItem pending p pending'
    → ItemsRead depth first next (heap_values new) pending'
items_turn depth first now next old new p pending pending' h going r less m = record {
  shorter = let k = h.shorter in omega arith;
  done = h.done ++ r.document ∷ [];
  so_far = items_next depth first now next h.done r.document h.so_far going r.is less;
  stands = row_step (heap_values old) (heap_values new) pending pending' p r.document h.done h.stands r.puts.grown r.puts.value m;
}

pub items_read : (depth : ℕ) (first now next : List Token) (begin old new : Heap) (p : Option Placed) (pending : PendingList) → ItemsRead depth first now (heap_values old) pending
    → after_end_array now ≡ Some next → HasGrown (heap_values begin) (heap_values old) → AddsPlaced old new p (pending_value (heap_values old) pending)
    → ReadsValue begin new p (parse_map json.array (converted of_items (items (value depth) (length first) first))) next
items_read depth first now next begin old new p pending h over g put = record {
  document = json.array (document.items_of h.done);
  is = ap (parse_map json.array) (items_over depth first now next h.done h.so_far over);
  puts = put_on begin old new p _ _ g (row_ends (heap_values old) pending h.done h.stands) put;
}

-- ---- maps

-- some members have been read; they began at `first`, and `now` remains
pub record MembersRead (depth : ℕ) (first now : List Token) (vs : List Value) (entries : List PlacedEntry) : Type 0 where
  pub shorter : length now ≤ length first
  pub found : json.Members
  pub so_far : MembersSoFar depth first now found
  pub are : AreMembers vs entries found

pub members_start : (depth : ℕ) (first : List Token) (vs : List Value) (entries : List PlacedEntry) → entries ≡ [] → MembersRead depth first first vs entries
members_start depth first vs entries e = record {
  shorter = omega arith;
  found = json.no_members;
  so_far = members_begin depth first;
  are = let P : List PlacedEntry → Type 0 = λ es. AreMembers vs es json.no_members in subst P (sym e) tt;
}

pub members_turn : (depth : ℕ) (first now mid next : List Token) (old new : Heap) (k : Bor (List ℕ)) (p : Option Placed) (es es' : List PlacedEntry)
    → MembersRead depth first now (heap_values old) es → read_key now ≡ Some (Some k.now, mid) → ReadsValue old new p (converted of_json (value depth mid)) next → length next < length mid
    → es' ≡ insert_entry str_cmp es k p → MembersRead depth first next (heap_values new) es'
members_turn depth first now mid next old new k p es es' h key r less e =
    let before = read_key-shorter now (Some k.now) mid key in
    let stood = member_put (heap_values new) es h.found k p r.document (members_stay (heap_values old) (heap_values new) es h.found r.puts.grown h.are) r.puts.value in
    record {
      shorter = let n = h.shorter in omega arith;
      found = json.put k.now r.document h.found;
      so_far = members_next depth first now mid next h.found k.now r.document h.so_far key r.is less;
      are = subst (λ xs. AreMembers (heap_values new) xs (json.put k.now r.document h.found)) (sym e) stood;
    }

pub members_gathered : (depth : ℕ) (first now next : List Token) (begin old : Heap) (es : List PlacedEntry) → MembersRead depth first now (heap_values old) es
    → read_key now ≡ Some (None, next) → IsHeap old → HasGrown (heap_values begin) (heap_values old)
    → ReadsEntries begin old es (converted (λ ms. of_members ms json.no_members) (members (value depth) (length first) first)) next
members_gathered depth first now next begin old es h over ok g =
    record { members = h.found; is = members_over depth first now h.found h.so_far next over; heap = ok; grown = g; are = h.are }

pub members_read : (begin old new : Heap) (p : Option Placed) (es : List PlacedEntry) (o : Option (json.Members × List Token)) (next : List Token) → ReadsEntries begin old es o next
    → AddsPlaced old new p (option_map kind.map (placed_entries (heap_values old) es)) → ReadsValue begin new p (parse_map json.object o) next
members_read begin old new p es o next h put = record {
  document = json.object h.members;
  is = ap (parse_map json.object) h.is;
  puts = put_on begin old new p _ _ h.grown (ap (option_map kind.map) (members_are (heap_values old) es h.members h.are)) put;
}

-- ---- texts

pub text_read : (old new : Heap) (p : Option Placed) (ts : List Token) → ReadsValue old new p (converted of_json (value max_depth ts)) [] → ReadsDocument old new p (whole (value max_depth ts))
text_read old new p ts h = record { document = h.document; is = document_read (value max_depth ts) h.document h.is; puts = h.puts }

pub text_and_more : (old new : Heap) (p : Option Placed) (ts r : List Token) (t : Token) → ReadsValue old new p (converted of_json (value max_depth ts)) (t ∷ r) → whole (value max_depth ts) ≡ None
text_and_more old new p ts r t h = document_and_more (value max_depth ts) h.document t r h.is
