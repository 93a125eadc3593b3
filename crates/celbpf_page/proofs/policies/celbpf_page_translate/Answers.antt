-- Proofs of `policies::celbpf_page_translate`: the result meets the contract.

use Rattle.celbpf_page.proofs.Refused.{told}
use Rattle.celbpf_page.proofs.policies.celbpf_page_translate.Goals as goal

pub returns-in-Err : goal.returns-in-Err
returns-in-Err c = told _ _ _ _ c.in-Err.refusal c.write_wide_refusal.ensures _ c.in-Err.ensures
