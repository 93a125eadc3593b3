-- Proofs of `code::names::root_reference`: the result meets the contract.

use Rattle.tree_code.proofs.Prelude.{◌≡◌, ℕ, List, false, rules, bytes_eq, codes, bytes_eq-Decides, root_reference}
use Rattle.tree_code.proofs.code.names.root_reference.Goals as goal

differs : (n other : List ℕ) → (n ≡ other → ⊥) → bytes_eq other n ≡ false
differs n other apart = let h = bytes_eq-Decides other n in search (rules, h, apart)

pub returns-in_default : goal.returns-in_default
unfolding root_reference
returns-in_default c =
    let d = c.in_default in let n = c.args.name.now in
    rw (differs n (codes "object") d.not-object, differs n (codes "oldObject") d.not-oldObject, differs n (codes "params") d.not-params, differs n (codes "namespaceObject") d.not-namespaceObject, differs n (codes "request") d.not-request)
