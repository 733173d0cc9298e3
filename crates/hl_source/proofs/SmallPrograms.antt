-- Parts of small programs, and what their lanes ask. The programs have one writable byte-address buffer, `dst`.
use Rattle.std.specs.Prelude.{◌≡◌, ℕ, List, [], ◌∷◌, true, false, map, Some, None}
use Rattle.lane_core.specs.declared.event.Event.{Event}
use Rattle.lane_core.specs.declared.event.Event.TheVariants.{BufferLoad, BufferStore}
use Rattle.lane_core.specs.declared.event.Asked.{Asked}
use Rattle.lane_core.specs.declared.event.Reply.{Reply}
use Rattle.lane_core.specs.declared.event.Slot.{Slot}
use Rattle.lane_core.specs.Lane.{Lane}
use Rattle.hl_meaning.specs.declared.ty.Kind.TheVariants.{Int as IntKind, Uint as UintKind}
use Rattle.hl_meaning.specs.declared.program.Parameter.{Parameter}
use Rattle.hl_meaning.specs.Types.{Ty, scalar_type, uint_type, vector_type, void_type}
use Rattle.hl_meaning.specs.Trees.{Expr, Exprs, Form, PathParts, Root, Stmt, Stmts, a_location, an_expr, build_form, literal_form, method_form, more_exprs, more_stmts, no_expr, no_exprs, no_parts, no_stmts, read_form, run_stmt, some_expr, variable_root, write_form}
use Rattle.hl_meaning.specs.Programs.{FunctionDef, Program, Resource, StructDef, Variable}
use Rattle.hl_source.specs.SourceLane.{source_lane}

-- trees

abbrev pub int_type : Ty
int_type = scalar_type IntKind

abbrev pub uints : ℕ → Ty
uints size = vector_type UintKind size

abbrev pub expr : Ty → Form → Expr
expr ty form = an_expr ty 0 form

abbrev pub uint_word : ℕ → Expr
uint_word word = expr uint_type (literal_form word)

abbrev pub int_word : ℕ → Expr
int_word word = expr int_type (literal_form word)

abbrev pub place_read : Ty → Root → PathParts → Expr
place_read ty root parts = expr ty (read_form (a_location ty root parts))

abbrev pub variable_read : Ty → ℕ → Expr
variable_read ty number = place_read ty (variable_root number) no_parts

abbrev pub exprs : List Expr → Exprs
exprs [] = no_exprs
exprs (e ∷ es) = more_exprs e (exprs es)

abbrev pub stmts : List Stmt → Stmts
stmts [] = no_stmts
stmts (s ∷ ss) = more_stmts s (stmts ss)

abbrev pub built : Ty → List Expr → Expr
built ty parts = expr ty (build_form (exprs parts))

-- `root.parts = value;`
abbrev pub set_place : Ty → Root → PathParts → Expr → Stmt
set_place ty root parts value = run_stmt (expr ty (write_form (a_location ty root parts) None ty value false))

-- `dst.Load(address)`
abbrev pub load : ℕ → Expr
load address = expr uint_type (method_form 0 1 (uint_word address) no_expr)

-- `dst.Store(address, value);`
abbrev pub store : ℕ → Expr → Stmt
store address value = run_stmt (expr void_type (method_form 0 1 (uint_word address) (some_expr value)))

-- `dst.Store3(address, value);`
abbrev pub store_3 : ℕ → Expr → Stmt
store_3 address value = run_stmt (expr void_type (method_form 0 3 (uint_word address) (some_expr value)))

-- programs

abbrev pub variable : Ty → Variable
variable ty = record { name = []; ty = ty; at = 0 }

abbrev pub function : Ty → List Parameter → List Ty → List Stmt → FunctionDef
function result parameters variables body = record {
  name = [];
  result = result;
  parameters = parameters;
  variables = map variable variables;
  body = stmts body;
}

-- `RWByteAddressBuffer dst;`
abbrev pub dst : Resource
dst = record { name = []; class = 1; raw = true; element = void_type; words = 0; register = None; space = 0; at = 0 }

-- the last function is the entry
abbrev pub program_with : List StructDef → List Resource → (shared : List Ty) → (functions : List FunctionDef) → (entry : ℕ) → Program
program_with structs resources shared functions entry = record {
  structs = structs;
  resources = dst ∷ resources;
  shared = map variable shared;
  constants = [];
  functions = functions;
  entry = entry;
  threads = 4 ∷ 2 ∷ 1 ∷ [];
}

-- a program of an entry alone
abbrev pub kernel : (shared variables : List Ty) → List Stmt → Program
kernel shared variables body = program_with [] [] shared (function void_type [] variables body ∷ []) 0

-- runs

abbrev pub first_lane : Lane
first_lane = record {
  group = record { x = 0; y = 0; z = 0 };
  thread = record { x = 0; y = 0; z = 0 };
  lane_index = 0;
  wave_size = 4;
  start = [];
}

-- a reply of one word
abbrev pub word_reply : ℕ → Reply
word_reply word = record { words = word ∷ 0 ∷ 0 ∷ 0 ∷ [] }

-- under these replies a lane has had these events, and then stands so
abbrev pub RunsTo : Program → (n : ℕ) → List ℕ → List Event → Asked → Type 0
RunsTo p n replies events outcome =
    source_lane p n first_lane (map word_reply replies) ≡ Some (record { events = events; outcome = outcome })

abbrev pub dst_slot : Slot
dst_slot = record { class = 1; space = 0; register = 0 }

abbrev pub stored : (address word : ℕ) → Event
stored address word = BufferStore dst_slot address 0 1 (word ∷ 0 ∷ 0 ∷ 0 ∷ [])

abbrev pub loaded : (address : ℕ) → Event
loaded address = BufferLoad dst_slot address 0
