-- The order that a command line gives.
use Rattle.std.specs.Prelude.{◌≡◌, ◌≤◌, ℕ, Bool, true, false, List, [], Option, Some, None, option_map, unwrap_or, Result, Ok, Err}
use Rattle.std.specs.Prelude.{codes, string_bytes, if◌then◌else◌}
use Rattle.std.specs.Str.{bytes_eq}
use Rattle.clap.specs.Words.{Row, Text, first_of, one_of}
use Rattle.cli.specs.Number.{number_of}
use Rattle.cli.specs.Parsing.{TakesWords}
use Rattle.cli.specs.Limits.{default_steps, step_limit}
use Rattle.review_runner.specs.Commands.{faults, entered}
use Rattle.review_runner.specs.declared.documents.document_names.DocumentNames.{DocumentNames}
use Rattle.review_runner.specs.declared.documents.review_names.ReviewNames.{ReviewNames}
use Rattle.review_runner.specs.declared.command_line.order.Order.{Order as CodeOrder}
use Rattle.review_runner.specs.declared.command_line.order.Order.TheVariants as code
use Rattle.host.specs.declared.order_error.OrderError.{OrderError, TheVariants.InvalidArguments, TheVariants.Memory}

-- the file names of the documents of a review; each is optional
pub record DocumentFiles : Type 0 where
  pub review : Option Text
  pub namespace : Option Text
  pub params : Option Text

-- file names of the code
abbrev pub files_view : DocumentNames → DocumentFiles
files_view names = record {
  review = option_map string_bytes names.review;
  namespace = option_map string_bytes names.namespace;
  params = option_map string_bytes names.params;
}

-- the file names of a policy and of the documents of a review; the last two are optional
pub record ReviewFiles : Type 0 where
  pub policy : Text
  pub review : Text
  pub namespace : Option Text
  pub params : Option Text

-- file names of the code
abbrev pub review_files_view : ReviewNames → ReviewFiles
review_files_view names = record {
  policy = string_bytes names.policy;
  review = string_bytes names.review;
  namespace = option_map string_bytes names.namespace;
  params = option_map string_bytes names.params;
}

-- what is asked for, as plain data; one constructor for each command
pub data Order : Type 0 where
  -- the file names of a policy and of its image
  compile : Text → Text → Order
  -- the files of a policy and of a review's documents, and the limit of steps
  review : ReviewFiles → ℕ → Order
  -- the image's file name, and the limit of steps
  run_image : Text → ℕ → Order
  -- the file names of a program's text and of its image
  assemble : Text → Text → Order
  -- the image's file name
  list : Text → Order
  -- the image's file name, and those of the documents
  debug : Text → DocumentFiles → Order

-- an order of the code
abbrev pub order_view : CodeOrder → Order
order_view (code.Compile policy image) = compile (string_bytes policy) (string_bytes image)
order_view (code.Review files steps) = review (review_files_view files) steps
order_view (code.RunImage image steps) = run_image (string_bytes image) steps
order_view (code.Assemble text image) = assemble (string_bytes text) (string_bytes image)
order_view (code.List image) = list (string_bytes image)
order_view (code.Debug image names) = debug (string_bytes image) (files_view names)

-- ---- from the values of a command's arguments to its order

-- a missing value is read as the empty name, or as the default limit of steps
unfoldable pub compile_in : List Row → Order
compile_in rows = compile (unwrap_or (first_of (codes "POLICY") rows) []) (unwrap_or (first_of (codes "IMAGE") rows) [])

-- `review`
unfoldable pub review_in : List Row → Order
review_in rows = review (record {
  policy = unwrap_or (first_of (codes "policy") rows) [];
  review = unwrap_or (first_of (codes "review") rows) [];
  namespace = first_of (codes "namespace") rows;
  params = first_of (codes "params") rows;
}) (unwrap_or (number_of (one_of (codes "steps") rows)) default_steps)

-- `run-image`
unfoldable pub run_image_in : List Row → Order
run_image_in rows = run_image (unwrap_or (first_of (codes "IMAGE") rows) [])
    (unwrap_or (number_of (one_of (codes "steps") rows)) default_steps)

-- `asm`
unfoldable pub assemble_in : List Row → Order
assemble_in rows = assemble (unwrap_or (first_of (codes "TEXT") rows) []) (unwrap_or (first_of (codes "IMAGE") rows) [])

-- `list`
unfoldable pub list_in : List Row → Order
list_in rows = list (unwrap_or (first_of (codes "IMAGE") rows) [])

-- `debug`
unfoldable pub debug_in : List Row → Order
debug_in rows = debug (unwrap_or (first_of (codes "IMAGE") rows) []) (record {
  review = first_of (codes "review") rows;
  namespace = first_of (codes "namespace") rows;
  params = first_of (codes "params") rows;
})

-- the order for a command's name; any name that is left is the last command's
abbrev pub order_named : Text → List Row → Order
order_named name rows =
    if bytes_eq name (codes "compile") then compile_in rows
    else (if bytes_eq name (codes "review") then review_in rows
    else (if bytes_eq name (codes "run-image") then run_image_in rows
    else (if bytes_eq name (codes "asm") then assemble_in rows
    else (if bytes_eq name (codes "list") then list_in rows
    else debug_in rows))))

-- the order for a command that was entered
abbrev pub order_in : Option (Text × List Row) → Option Order
order_in (Some p) = Some (order_named p.0 p.1)
order_in None = None

-- ---- results of the code

-- for one command whose words are accepted: its order, unless an allocation fails
abbrev pub CommandReturns : Order → Result CodeOrder OrderError → Type 0
CommandReturns wanted (Ok o) = wanted ≡ order_view o
CommandReturns wanted (Err InvalidArguments) = ⊥
CommandReturns wanted (Err Memory) = Unit {0}

-- for the whole command line: an order only if the words are accepted, and then theirs
abbrev pub OrderReturns : List Text → Result CodeOrder OrderError → Type 0
OrderReturns words result = TakesWords (faults words) (λ o. order_in (entered words) ≡ Some (order_view o)) result

-- ---- kinds

-- a session, which reads and writes while it runs
abbrev pub is_session : Order → Bool
is_session (compile policy image) = false
is_session (review files steps) = false
is_session (run_image image steps) = false
is_session (assemble text image) = false
is_session (list image) = false
is_session (debug image documents) = true

-- ---- limits

-- no order has a limit of steps above that of a run
abbrev pub IsWithinLimits : Order → Type 0
IsWithinLimits (review files steps) = steps ≤ step_limit
IsWithinLimits (run_image image steps) = steps ≤ step_limit
IsWithinLimits _ = Unit {0}
