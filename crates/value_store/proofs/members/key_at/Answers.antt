-- Proof obligations of `key_at` (src/members.rt).
use Rattle.value_store.proofs.Prelude.{ℕ, List, Some, option_map, ap, ◌∙◌, Data, members_view}
use Rattle.value_store.proofs.Parts.{member_key}
use Rattle.value_store.proofs.members.key_at.Goals as goal

pub returns-in-Some : goal.returns-in-Some
returns-in-Some c =
    let found = ap (option_map (λ (m : List ℕ × Data). m.0)) c.in-Some.ensures in
    ap Some c.as_str.ensures.value ∙ found ∙ member_key c.args.place (members_view c.args.members.now.entries)

pub returns-in-None : goal.returns-in-None
returns-in-None c =
    let found = ap (option_map (λ (m : List ℕ × Data). m.0)) c.in-None.ensures in
    found ∙ member_key c.args.place (members_view c.args.members.now.entries)
