-- `empty` makes a place with a null pointer.
use Rattle.std.proofs.Common.{List, [], ◌∷◌, ◌++◌, refl, sym, subst, lit<}
use mir.Val.{Val, has_ty}
use base.Logic.{SProp, ent, emp, id⊢}
use base.Fml.{ftrue}
use prog.Wp.{WpFn}
use types.Kit.{‵, raw, ◌⊛◌, ◌$◌, ◌∵◌, !, qed, move, keep, split, join, fsplit, fjoin, feq_i, suffices, use1, done}
use types.Run.{lit, no_more, and_then, returns, enter}
use types.ByLocal.{alloc_all, pass_all, free_all, look_at, get, sets}
use types.Part.{agg}
use contract.Running.{tables}
use denote.Exit.{yes}
use denote.RattleType.{owns}
use denote.Signature.{types_at, plain}
use denote.RawPtr.{Ptr, null_ptr, ptr_val}
use denote.Steps.{nothing}
use denote.Param.{layout}
use denote.Triple.Walked.{says, ends_at, Stays, stay_dropped, walk_of, Goes-dropped}
use Rattle.core.proofs.alloc.Calls.{handle_tells}
use Rattle.core.proofs.cell.Inside.{Good}
use Rattle.std.specs.Prelude.{None}
use Rattle.std.proofs.raw_atomic.Walks.{proved_at}
use Rattle.std_alloc.proofs.ResultValues.{and_tt}
use Rattle.celbpf_c.specs.Places.{owned_by_place}
use Rattle.celbpf_c.proofs.Steps.{al, both, Place, Z, place_in}
use Rattle.celbpf_c.specs.contracts.gate_place.GatePlace.empty.{ended, clauses}
use Rattle.celbpf_c.specs.contracts.gate_place.GatePlace.empty.Key.{name as #self}
use Rattle.celbpf_c.proofs.gate_place.GatePlace.empty.Statement.{statement}
use Rattle.celbpf_c.proofs.gate_place.GatePlace.empty.Code as code

pub empty_spec : {M : Type 1} → statement M
empty_spec 𝓤 𝓛 𝓜 𝓡 wired =
    let H = 𝓛.H in let 𝓣 = tables 𝓤 H 𝓜 𝓡 𝓡.env in let En = ended in let c = clauses 𝓛 𝓜.mem 𝓡.returns in let fn = code.function in
    let hs : Stays En.signature.params En.kept = (stay_dropped (plain (λ _. Z)) yes, tt) in
    proved_at 𝓛 En hs c 𝓜 𝓡 (Goes-dropped 𝓛 0 (plain (λ _. Z)) yes (λ κs x f. refl), tt) #self fn (code.unfolded 𝓤 H 𝓜 𝓡 wired) (λ z are.
    let a = z.0.3.0 in let Post : Val → SProp 𝓤 = (walk_of 𝓛 En hs c).post z in let Run : List Val → SProp 𝓤 = λ ws. WpFn 𝓤 H 𝓣.C 𝓣.Λ fn ws Post in
    qed 𝓛 ((‵ ftrue ⊛ ‵ (owns (types_at En.signature.params tt) z.0.3 z.0.4)) ∷ raw (emp 𝓤) ∷ []) ∵ split ! $ move ! (1 ∷ []) $ fsplit ! $ handle_tells al ! a z.0.4.0 (λ h ws gh.
    let w : Val = both (ptr_val null_ptr) h in let typed : Good (layout Place) w = (and_tt (has_ty (layout Z) h) gh.0, (record { fits = lit< tt }, (gh.1, tt))) in
    feq_i ! Ptr null_ptr null_ptr refl $ use1 𝓛 (‵ (owned_by_place a None null_ptr)) (id⊢ 𝓤 _) $ place_in ! h a None null_ptr $ keep ! (0 ∷ []) $
    suffices ! (Run (h ∷ [])) (subst (λ (vs : List Val). ent 𝓤 (Run (h ∷ [])) (Run vs)) (sym (λ i. ws i ++ [])) (id⊢ 𝓤 (Run (h ∷ [])))) $
    enter ! 𝓣.C 𝓣.Λ fn (h ∷ []) Post $ alloc_all ! (λ l. pass_all ! refl (gh, tt) $
    sets ! (agg ! (and_then ! (lit ! tt) (and_then ! (get ! refl) (no_more !)))) refl typed $ returns ! (look_at ! 0 refl) $ free_all ! refl $
    suffices ! _ (ends_at 𝓛 En hs c z w (record { at = null_ptr; alloc = a; gate = None }) (tt, tt) (tt, tt)) $ says ! refl $ nothing ! $ nothing ! $ fjoin ! $ join ! $ nothing ! $ join ! $ done !)))
