-- No answer has a float.
use Rattle.serde_json.specs.Data as json
use Rattle.cluster_state.specs.declared.action.Action.{Action}
use Rattle.cluster_response.proofs.Prelude.{◌≡◌, ◌∷◌, ℕ, Bool, true, false, List, [], Option, None, Some, ClusterAudit, ClusterDenial, EventSummary, Request, Undecided, action_tree, annotations_tree, answer_by, answer_tree, decision_tree, has_float, if_member, if_texts, items_have_float, items_of, map, members_have_float, option_map, refl, review_tree, status_of}

-- a value that may be absent has a float
abbrev pub option_float : Option json.Data → Bool
option_float None = false
option_float (Some d) = has_float d

member_float : (name : List ℕ) (o : Option json.Data) (ms : json.Members) → option_float o ≡ false → members_have_float ms ≡ false
    → members_have_float (if_member name o ms) ≡ false
member_float name None ms none rest = rest
member_float name (Some d) ms none rest = rw (none, rest) refl

texts_float : (ts : List (List ℕ)) → items_have_float (items_of (map json.string ts)) ≡ false
texts_float [] = refl
texts_float (t ∷ ts) = texts_float ts

if_texts_float : (ts : List (List ℕ)) → option_float (if_texts ts) ≡ false
if_texts_float [] = refl
if_texts_float (t ∷ ts) = texts_float ts

annotations_float : (o : Option ClusterAudit) → option_float (option_map annotations_tree o) ≡ false
annotations_float None = refl
annotations_float (Some a) = refl

status_at : (q : Request) (d : Option ClusterDenial) (ts : List (List ℕ)) (a : Option ClusterAudit) (r : Option Undecided) (b : Bool)
    → option_float (status_of q (record { denial = d; warnings = ts; audit = a; undecided = r; ended = b })) ≡ false
status_at q d ts a r true = refl
status_at q (Some d) ts a r false = refl
status_at q None ts a r false = refl

decision_float : (o : Option json.Data) (uid : List ℕ) (s : EventSummary) → option_float o ≡ false → has_float (decision_tree o uid s) ≡ false
decision_float o uid s none =
    member_float _ (option_map annotations_tree s.audit) _ (annotations_float s.audit)
    (member_float _ o _ none (member_float _ (if_texts s.warnings) json.no_members (if_texts_float s.warnings) refl))

answer_by_float : (o : Option json.Data) (r : Option Undecided) (uid : List ℕ) (s : EventSummary) → option_float o ≡ false
    → has_float (answer_by o r uid s) ≡ false
unfolding review_tree
answer_by_float (Some d) r uid s none = rw (decision_float (Some d) uid s none) refl
answer_by_float None (Some r) uid s none = refl
answer_by_float None None uid s none = rw (decision_float None uid s refl) refl

pub answer_float : (q : Request) (uid : List ℕ) (s : EventSummary) → has_float (answer_tree q uid s) ≡ false
answer_float q uid s = answer_by_float (status_of q s) s.undecided uid s (status_at q s.denial s.warnings s.audit s.undecided s.ended)

pub actions_float : (xs : List Action) → items_have_float (items_of (map action_tree xs)) ≡ false
actions_float [] = refl
actions_float (x ∷ xs) = actions_float xs
