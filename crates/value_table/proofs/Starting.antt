-- The references that a table starts with.
use Rattle.value_table.proofs.Prelude.{arith, ◌≡◌, ℕ, List, [], ◌∷◌, ◌++◌, map, ap, ap₂, append_assoc, false, true, Ok, Err, Result, AllByRecursion, map-append, view, Value, ValueOrError, value, IsDocumentOrdered, Contents, first_values, start_contents, StoreStarts, TableError, Memory, plain_value, charge_in, AllWhole, started, charged_ok, refused, due, value_ordered, heap_values, IsHeap, IsValueAt, Held, StartsWithValues, IsWelcome, Heap}
use Rattle.serde_json.specs.Data as json
use Rattle.serde_json.specs.declared.value.Value as document
use Rattle.value_store.specs.Value as kind

welcome_all : (ds : List json.Data) → AllWhole ds → AllByRecursion IsDocumentOrdered ds → AllByRecursion IsWelcome ds
welcome_all [] w o = tt
welcome_all (d ∷ ds) w o = ((w.0, value_ordered d o.0), welcome_all ds w.1 o.1)

-- documents with a charge
pub judged : (ds : List json.Data) (n : ℕ) → Ok n ≡ charge_in (start_contents ds) → AllByRecursion IsDocumentOrdered ds → AllByRecursion IsWelcome ds
judged ds n e o = let start = started ds (charged_ok (start_contents ds) n e) in welcome_all ds start.welcome.whole o

-- documents without a charge, or an allocation failed for their table
pub refused_as : {S : Type 0} (contents : S → Contents) (ds : List json.Data) (x : TableError) (r : Result S TableError)
    → Err x ≡ charge_in (start_contents ds) → r ≡ Err x → StoreStarts contents (start_contents ds) r
refused_as contents ds x r e is = rw is (refused contents ds x e)

pub no_memory_for : {S : Type 0} (contents : S → Contents) (ds : List json.Data) (n : ℕ) (r : Result S TableError) → Ok n ≡ charge_in (start_contents ds)
    → r ≡ Err Memory → StoreStarts contents (start_contents ds) r
no_memory_for contents ds n r e is = rw is (charged_ok (start_contents ds) n e)

pub due_with : (ds es : List json.Data) (charge : ℕ) (t : Held) → Ok charge ≡ charge_in (start_contents ds) → es ≡ ds
    → t ≡ record { values = first_values ++ map value (map plain_value es); charge = charge }
    → start_contents ds ≡ Ok (record { values = t.values; charge = t.charge })
due_with ds es charge t e same is = rw is (due ds charge _ e (ap (λ xs. first_values ++ map value (map plain_value xs)) same))

-- the error, null, false and true
pub start_first : (h : Heap) (ps : List ℕ) (a b c : ℕ) → IsHeap h → ps ≡ a ∷ b ∷ c ∷ [] → IsValueAt (heap_values h) a kind.null
    → IsValueAt (heap_values h) b (kind.boolean false) → IsValueAt (heap_values h) c (kind.boolean true) → StartsWithValues h ps first_values
start_first h ps a b c k e x y z = grind arith

mapped_end : (ys : List document.Value) (x : document.Value)
    → map value (map plain_value (map view (ys ++ x ∷ []))) ≡ map value (map plain_value (map view ys)) ++ value (plain_value (view x)) ∷ []
mapped_end ys x = simp map-append

-- one more root
pub root_step : (ys zs : List document.Value) (x : document.Value) (mid new : List ValueOrError) (v : Value) → zs ≡ ys ++ x ∷ []
    → mid ≡ first_values ++ map value (map plain_value (map view ys)) → v ≡ plain_value (view x) → new ≡ mid ++ value v ∷ []
    → new ≡ first_values ++ map value (map plain_value (map view zs))
root_step ys zs x mid new v t m e n = grind (arith, ap₂, append_assoc, mapped_end)
