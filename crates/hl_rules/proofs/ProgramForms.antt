-- A program that breaks no rule becomes one, and it is well formed.
use Rattle.std.proofs.Common.{◌≡◌, refl, sym, ap, subst, ℕ, zero, suc, List, [], ◌∷◌, ◌++◌, length, take, Option, Some, append_assoc}
use Rattle.std.specs.Prelude.{option_and_then, slice_get, unwrap_or}
use Rattle.std.proofs.lemmas.List.{append-nil}
use Rattle.hl_lexer.specs.Tokens.{Lexeme}
use Rattle.hl_parser.specs.Trees.{Tree, Trees, a_program}
use Rattle.hl_meaning.specs.Places as places
use Rattle.hl_meaning.specs.Programs.{Constant, FunctionDef, Program, Resource, StructDef, Variable}
use Rattle.hl_meaning.specs.WellFormed.{IsEntryIf, IsFunction, IsWellFormed}
use Rattle.hl_rules.specs.Elaboration.{after_items, all_of_items, entry_number, item_constants, item_functions, item_resources, item_shared, item_threads, items_program, of_items, one_of, program_of}
use Rattle.hl_rules.specs.Scopes.{first_scope}
use Rattle.hl_rules.specs.Sites.{items_sites, program_sites}
use Rattle.hl_rules.specs.Statements.{struct_defs}
use Rattle.hl_rules.proofs.Fitting.{AreTokens}
use Rattle.hl_rules.proofs.Free.{IsFree}
use Rattle.hl_rules.proofs.FunctionForms.{IsFunctionBehind}
use Rattle.hl_rules.proofs.ProgramEntry.{HasEntry, entry-number, entry-there}
use Rattle.hl_rules.proofs.ProgramInduction.{items-kept}
use Rattle.hl_rules.proofs.ProgramItems.{AreFunctionsBehind, AreKeptItems}
use Rattle.hl_rules.proofs.ProgramScopes.{Stands, program_env}
use Rattle.hl_rules.proofs.Soundness.{IsSound}
use Rattle.hl_rules.proofs.StructMembers.{structs-kept}
use Rattle.hl_rules.proofs.TreeShapes.{AllTrees, IsItem, IsProgram}
use Rattle.hl_rules.proofs.ValueForms.{ExpressionsBecome}
use Rattle.hl_rules.proofs.StatementParts.{with_three-there}

-- ---- before the first item

sound-first : (tokens : List Lexeme) (entry : List ℕ) → AreTokens tokens → IsSound (first_scope tokens entry)
sound-first tokens entry known = record {
  known = record {
    tokens = known;
    variables = λ name v e. absurd (cc e);
    numbers = λ name v number e h. absurd (cc e);
    members = λ number member name e. absurd (cc e);
    buffers = λ name number e. absurd (cc e);
    elements = λ number buffer e h. absurd (cc e);
    functions = λ number f e. absurd (cc e);
  };
  structs = tt;
  struct_names = λ name number e. absurd (cc e);
}

stands-first : (structs : List StructDef) (resources : List Resource) (shared : List Variable) (constants : List Constant) (tokens : List Lexeme) (entry : List ℕ) → AreTokens tokens → Stands (program_env structs resources shared constants) (first_scope tokens entry) [] [] [] []
stands-first structs resources shared constants tokens entry known = record {
  sound = sound-first tokens entry known;
  outside = refl;
  resources = refl;
  shared = refl;
  constants = refl;
  functions = refl;
  buffers = λ number buffer e. absurd (cc e);
  names = λ name sort e. absurd (cc e);
  callees = λ number f e. absurd (cc e);
}

-- ---- functions by their numbers

function-behind : (env : places.Scope) (before defs : List FunctionDef) (number : ℕ) (f : FunctionDef) → AreFunctionsBehind env before defs → slice_get defs number ≡ Some f → IsFunctionBehind env (before ++ take number defs) f
function-behind env before [] number f all e = absurd (cc e)
function-behind env before (x ∷ defs) zero f all e =
    subst (λ l. IsFunctionBehind env l f) (sym (append-nil before)) (subst (λ g. IsFunctionBehind env before g) (ap (λ o. unwrap_or o x) e) all.0)
function-behind env before (x ∷ defs) (suc number) f all e =
    subst (λ l. IsFunctionBehind env l f) (append_assoc before (x ∷ []) (take number defs))
    (function-behind env (before ++ x ∷ []) defs number f all.1 e)

function-of : (structs : List StructDef) (resources : List Resource) (shared : List Variable) (constants : List Constant) (functions : List FunctionDef) (entry : ℕ) (threads : List ℕ) (number : ℕ) (f : FunctionDef) → IsFunctionBehind (program_env structs resources shared constants) (take number functions) f → IsFunction (record { structs = structs; resources = resources; shared = shared; constants = constants; functions = functions; entry = entry; threads = threads }) number f
function-of structs resources shared constants functions entry threads number f kept = record {
  result = kept.result;
  variables = kept.variables;
  numbered = kept.numbered;
  there = kept.there;
  body = kept.body;
  returns = kept.returns;
}

-- ---- programs

-- a program that a tree becomes, and that is well formed
pub record IsMadeProgram (found : Option Program) : Type 0 where
  pub program : Program
  pub is : found ≡ Some program
  pub well_formed : IsWellFormed program

module _ (tokens : List Lexeme) (entry : List ℕ) (items : Trees) where
  made-program : (kept : AreKeptItems (program_env (struct_defs (after_items (first_scope tokens entry) items).structs) (of_items item_resources (first_scope tokens entry) items) (of_items item_shared (first_scope tokens entry) items) (of_items item_constants (first_scope tokens entry) items)) (first_scope tokens entry) items []) → AllTrees (IsItem tokens) items → HasEntry (first_scope tokens entry) items kept.defs → IsMadeProgram (items_program (first_scope tokens entry) items)
  made-program kept shapes found = record {
    program = record {
      structs = struct_defs (after_items (first_scope tokens entry) items).structs;
      resources = of_items item_resources (first_scope tokens entry) items;
      shared = of_items item_shared (first_scope tokens entry) items;
      constants = of_items item_constants (first_scope tokens entry) items;
      functions = kept.defs;
      entry = length found.before;
      threads = found.threads;
    };
    is =
        with_three-there (λ functions number threads. Some (record {
          structs = struct_defs (after_items (first_scope tokens entry) items).structs;
          resources = of_items item_resources (first_scope tokens entry) items;
          shared = of_items item_shared (first_scope tokens entry) items;
          constants = of_items item_constants (first_scope tokens entry) items;
          functions = functions;
          entry = number;
          threads = threads;
        }))
        (all_of_items item_functions (first_scope tokens entry) items)
        (entry_number (after_items (first_scope tokens entry) items))
        (option_and_then one_of (all_of_items item_threads (first_scope tokens entry) items))
        kept.defs (length found.before) found.threads
        kept.made
        (entry-number tokens (first_scope tokens entry) items kept.defs shapes refl found)
        (ap (λ o. option_and_then one_of o) found.is);
    well_formed = record {
      structs = λ number d e. structs-kept (after_items (first_scope tokens entry) items).structs number d kept.sound.structs e;
      resources = kept.resources;
      shared = kept.shared;
      constants = kept.constants;
      functions = λ number f e.
          function-of _ _ _ _ kept.defs (length found.before) found.threads number f
          (function-behind (program_env (struct_defs (after_items (first_scope tokens entry) items).structs) (of_items item_resources (first_scope tokens entry) items) (of_items item_shared (first_scope tokens entry) items) (of_items item_constants (first_scope tokens entry) items)) [] kept.defs number f kept.functions e);
      entry = subst (λ o. IsEntryIf o) (sym found.at) found.kept;
      threads = found.are;
    };
  }

  items-made : ExpressionsBecome → AreTokens tokens → AllTrees (IsItem tokens) items → IsFree (items_sites (first_scope tokens entry) items) → IsMadeProgram (items_program (first_scope tokens entry) items)
  items-made claim known shapes free = made-program kept shapes (entry-there tokens (first_scope tokens entry) items kept.defs shapes kept.known free kept.made refl)
    where
      kept : AreKeptItems (program_env (struct_defs (after_items (first_scope tokens entry) items).structs) (of_items item_resources (first_scope tokens entry) items) (of_items item_shared (first_scope tokens entry) items) (of_items item_constants (first_scope tokens entry) items)) (first_scope tokens entry) items []
      kept =
          items-kept (struct_defs (after_items (first_scope tokens entry) items).structs) (of_items item_resources (first_scope tokens entry) items) (of_items item_shared (first_scope tokens entry) items) (of_items item_constants (first_scope tokens entry) items)
          claim (first_scope tokens entry) items [] [] [] []
          (stands-first (struct_defs (after_items (first_scope tokens entry) items).structs) (of_items item_resources (first_scope tokens entry) items) (of_items item_shared (first_scope tokens entry) items) (of_items item_constants (first_scope tokens entry) items) tokens entry known)
          (record { shapes = shapes; free = free; of_structs = refl; of_resources = refl; of_shared = refl; of_constants = refl })

pub program-made : ExpressionsBecome → (tokens : List Lexeme) (entry : List ℕ) (tree : Tree) → AreTokens tokens → IsProgram tokens tree → IsFree (program_sites tokens entry tree) → IsMadeProgram (program_of tokens entry tree)
program-made claim tokens entry (a_program at items) known shape free = items-made tokens entry items claim known shape.1 free
program-made claim tokens entry other known shape free = absurd shape
