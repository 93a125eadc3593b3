-- Proof obligations of `responding::decision`.
use Rattle.std.specs.Prelude.{is_none}
use Rattle.cluster_response.proofs.Prelude.{◌≡◌, ◌∙◌, ℕ, Bool, true, false, not, List, Option, None, Some, IfOk-weaker, codes, is_some, option_map, refl, view}
use Rattle.serde_json.specs.Data as json
use Rattle.json_fields.specs.Members.{put_if}
use Rattle.cluster_response.specs.Response.{decision_from}
use Rattle.cluster_response.proofs.responding.decision.Goals as goal

-- the members in the order of their names
ordered : (annotations status warnings : Option json.Data) (uid : List ℕ) (allowed : Bool) → allowed ≡ is_none status
    → json.object (put_if (codes "warnings") warnings (json.put (codes "uid") (json.string uid)
    (put_if (codes "status") status (put_if (codes "auditAnnotations") annotations (json.put (codes "allowed") (json.boolean allowed) json.no_members)))))
    ≡ decision_from annotations status uid warnings
ordered None None None uid allowed e = rw e refl
ordered None None (Some w) uid allowed e = rw e refl
ordered None (Some s) None uid allowed e = rw e refl
ordered None (Some s) (Some w) uid allowed e = rw e refl
ordered (Some a) None None uid allowed e = rw e refl
ordered (Some a) None (Some w) uid allowed e = rw e refl
ordered (Some a) (Some s) None uid allowed e = rw e refl
ordered (Some a) (Some s) (Some w) uid allowed e = rw e refl

shown : {A B : Type 0} (f : A → B) (o : Option A) (none : Bool) → is_some o ≡ not none → none ≡ is_none (option_map f o)
shown f None true e = refl
shown f None false e = cc
shown f (Some a) true e = cc
shown f (Some a) false e = refl

pub returns : goal.returns
returns c =
    IfOk-weaker c.object.result _ _
    (λ v is. is ∙ ordered (option_map view c.args.annotations) (option_map view c.args.status) (option_map view c.args.warnings) c.args.uid.now c.is_none.result
    (shown view c.args.status c.is_none.result c.is_none.ensures))
    (c.object.ensures _ (c.with_member.ensures _ (c.with_text-named.ensures _ (c.with_member-told.ensures _ (c.with_member-annotated.ensures _ (c.with_flag-decided.ensures _ c.no_members.ensures))))))
