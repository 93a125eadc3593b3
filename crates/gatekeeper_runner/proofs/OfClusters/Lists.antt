-- The lists of a cluster, read one after the other.
use Rattle.gatekeeper_runner.proofs.Prelude.{◌≡◌, ℕ, suc, ◌+◌, ◌<◌, List, [], ◌∷◌, ◌++◌, drop, length, map, take, Option, Ok, String, string_bytes, sym, ap, ◌∙◌, get_or, Global, map-append, take_more, split_at, FileSystem, StartRefusal}
use Rattle.serde_json.specs.View.{view}
use Rattle.serde_json.specs.declared.value.Value.{Value}
use Rattle.gatekeeper_runner.specs.Cluster.Starting.{HoldLists, IsNoList, ListRead, OneIsNoList, next}

-- the loop over the words is at a word, and the files of those before it hold lists
module _ (known : Option FileSystem) (words : List (String Global)) (i : ℕ) (word : String Global) (lists : List Value) (within : i < length words) (is : word ≡ get_or words i word)
    (hold : HoldLists known (map string_bytes (take i words)) (map view lists)) where
  one_more : take (i + 1) words ≡ take i words ++ word ∷ []
  one_more = take_more words i word within ∙ ap (λ (w : String Global). take i words ++ w ∷ []) (sym is)

  pub lists_more : (more : List Value) (list : Value) → ListRead known (string_bytes word) (Ok list) → more ≡ lists ++ list ∷ []
      → HoldLists known (map string_bytes (take (i + 1) words)) (map view more)
  lists_more more list read grown = rw (grown, one_more, map-append, map-append) (next hold read.1 read.2)

  pub no_list_at : (r : StartRefusal) → IsNoList known (string_bytes word) r → OneIsNoList known (map string_bytes words) r
  no_list_at r why = record {
    before = map string_bytes (take i words);
    name = string_bytes word;
    after = map string_bytes (drop (suc i) words);
    are = ap (map string_bytes) (split_at words i word within ∙ ap (λ (w : String Global). take i words ++ w ∷ drop (suc i) words) (sym is)) ∙ map-append string_bytes (take i words) (word ∷ drop (suc i) words);
    lists = map view lists;
    hold = hold;
    why = why;
  }
