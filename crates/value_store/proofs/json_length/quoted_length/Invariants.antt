-- Loop invariant of `json_length::quoted_length`.
use Rattle.std.specs.Prelude.{take}
use Rattle.json.specs.Print.{escape}
use Rattle.value_store.proofs.Prelude.{◌≡◌, ◌≤◌, ◌+◌, length, saturated}
use Rattle.value_store.proofs.json_length.quoted_length.Given as goal

abbrev pub invariant-loop-byte : goal.invariant-loop-byte
invariant-loop-byte l = record {
  counted : l.length ≡ saturated (2 + length (escape (take l.byte-index l.text)));
  end : l.byte-index-end ≡ length l.text;
  within : l.byte-index ≤ length l.text;
}
