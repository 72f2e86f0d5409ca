-- The table of kernels and services: what each reads, writes and does.
use Rattle.std.specs.Prelude.{ℕ, ◌%◌, List, [], ◌∷◌, drop, slice_index, Option, Some, None, Bool}
use Rattle.std.specs.Prelude.{◌||◌, ◌==◌, if◌then◌else◌}
use Rattle.std.specs.Int.{w64, from_le_bytes}
use Rattle.hq_footprint.specs.declared.footprint.Range.{Range}
use Rattle.hq_footprint.specs.declared.footprint.Work.{Work}
use Rattle.hq_footprint.specs.declared.task.Task.{Task}
use Rattle.hq_footprint.specs.declared.task.Task.TheVariants as task
use Rattle.hq_footprint.specs.declared.task.Code.{Code}
use Rattle.hq_footprint.specs.declared.task.Code.TheVariants as code

-- so many bytes from an address on
abbrev pub range : ℕ → ℕ → Range
range at len = record { at = at; len = len }

-- a range of no bytes
abbrev pub nowhere : Range
nowhere = range 0 0

-- two ranges to read, one to write, and what is written there
abbrev pub work : Range → Range → Range → Task → Work
work first second write task = record { foot = record { reads = first ∷ second ∷ []; write = write }; task = task }

-- ---- kernels

-- how many arguments a kernel takes
abbrev pub argument_count : Code → ℕ
argument_count code.Fill = 2
argument_count code.Copy = 2
argument_count code.Rev = 2
argument_count code.Xor = 3
argument_count code.Add = 3
argument_count code.Sum = 2

-- what a kernel does on n items, with its arguments; those of two ignore the third
abbrev pub kernel_work : Code → ℕ → ℕ → ℕ → ℕ → Work
kernel_work code.Fill n dst byte other = work nowhere nowhere (range dst n) (task.Fill (byte % 256))
kernel_work code.Copy n src dst other = work (range src n) nowhere (range dst n) task.Copy
kernel_work code.Rev n src dst other = work (range src n) nowhere (range dst n) task.Rev
kernel_work code.Xor n a b dst = work (range a n) (range b n) (range dst n) task.Xor
kernel_work code.Add n a b dst = work (range a n) (range b n) (range dst n) task.Add
kernel_work code.Sum n src dst other = work (range src n) nowhere (range dst 8) task.Sum

-- the argument at an offset of a kernarg block: the number of 8 bytes, the least first
unfoldable pub argument_at : List ℕ → ℕ → ℕ
argument_at block offset = from_le_bytes w64 (drop offset block)

-- the kernel with the arguments that stand in a kernarg block: 8 bytes each, one behind another
abbrev pub kernel_call : Code → ℕ → List ℕ → Work
kernel_call code n block = kernel_work code n (argument_at block 0) (argument_at block 8) (argument_at block 16)

-- ---- services

-- work that reads and writes nothing
abbrev pub no_work : Work
no_work = work nowhere nowhere nowhere task.Nop

-- a word, written at the return address
abbrev pub store_work : ℕ → ℕ → Work
store_work word ret = work nowhere nowhere (range ret 8) (task.Store64 word)

-- how many of so many bytes equal one, written at the return address; with no bytes that is the word 0
abbrev pub count_work : ℕ → ℕ → ℕ → ℕ → Work
count_work at len byte ret = if len == 0 then store_work 0 ret else work (range at len) nowhere (range ret 8)
    (task.Count (byte % 256))

-- the types of store64, count and nop
abbrev pub is_service : ℕ → Bool
is_service kind = kind == 0x8000 || kind == 0x8001 || kind == 0x8002

-- what each does, with its first three arguments
abbrev pub service_work : ℕ → ℕ → ℕ → ℕ → ℕ → Work
service_work kind a b c ret = if kind == 0x8000 then store_work a ret else
    (if kind == 0x8001 then count_work a b c ret else no_work)

-- a service with its four arguments; with a return address of 0 it does nothing. None where no service has the type
abbrev pub service_call : ℕ → List ℕ → ℕ → Option Work
service_call kind args ret =
    if is_service kind then Some
    (if ret == 0 then no_work else service_work kind (slice_index args 0) (slice_index args 1)
    (slice_index args 2) ret)
    else None
