-- Names that the translation uses itself.
use Rattle.std.specs.Prelude.{ℕ, Bool, List, ◌++◌, replicate, nat_eq, codes, if◌then◌else◌}
use Rattle.std.specs.List.{starts_with}
use Rattle.cel_macros.specs.MacroFault.{is_taken as is_reserved}

-- the iteration name that the translation binds
abbrev pub held_name : List ℕ
held_name = codes "celbpf_a"

-- the iteration name of the indices or keys of a range
abbrev pub index_name : List ℕ
index_name = codes "celbpf_i"

-- a second iteration name that the translation binds
abbrev pub second_name : List ℕ
second_name = codes "celbpf_b"

-- a third one
abbrev pub third_name : List ℕ
third_name = codes "celbpf_c"

-- the iteration name of a pair inside of n iteration names: different for each n
abbrev pub pair_name : ℕ → List ℕ
pair_name n = codes "celbpf_p" ++ replicate n 112

-- the root of the parameters, and its field that has them if the root also has tables
abbrev pub params_name : List ℕ
params_name = codes "params"

abbrev pub params_field : List ℕ
params_field = codes "v"

-- the field of that root that has the tables, and the table of the ints 0, 1, ..
abbrev pub tables_field : List ℕ
tables_field = codes "t"

abbrev pub indices_field : List ℕ
indices_field = codes "n"

-- the root of the namespace
abbrev pub namespace_name : List ℕ
namespace_name = codes "namespaceObject"

-- whether an iteration name begins as the names that the translation binds
abbrev pub is_taken : List ℕ → Bool
is_taken x = starts_with nat_eq x (codes "celbpf_")

-- the iteration name that x is written as: x itself, or one of the translation's if x is a root or `variables`, which the
-- compiled language does not bind
abbrev pub written_name : List ℕ → List ℕ
written_name x = if is_reserved x then codes "celbpf_" ++ x else x
