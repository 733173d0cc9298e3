-- Blocks record at most one list of bodies, where the types, the functions' types and the constants are known.
use Rattle.std.proofs.Common.{◌≡◌, ℕ, zero, suc, ◌+◌, ◌-◌, List, [], ◌∷◌, ◌++◌, Some, None, Option, map, length, refl, ap, sym, ◌∙◌, subst, arith}
use Rattle.std.specs.Prelude.{Bool, false, true, is_some, replicate, slice_get, option_and_then, if◌then◌else◌}
use Rattle.std.specs.Option.{option_map_or}
use Rattle.std.proofs.lemmas.List.{length-append, length-map, length-replicate}
use Rattle.ir_core.specs.declared.instruction.Inst.{Inst}
use Rattle.ir_core.specs.declared.instruction.Inst.TheVariants.{Bin, Cast, Cmp, Select, Phi, Alloca, Gep, Load, Store, Extract, Call, Rmw, CmpXchg, Jump, Branch, Ret}
use Rattle.ir_core.specs.declared.instruction.Block.{Block}
use Rattle.ir_core.specs.declared.instruction.Body.{Body}
use Rattle.ir_core.specs.declared.module.Ty.{Ty}
use Rattle.ir_core.specs.declared.module.Const.{Const}
use Rattle.ir_core.specs.declared.module.Function.{Function}
use Rattle.ir_core.specs.declared.module.Module.{Module}
use Rattle.ir_core.specs.Values.{signature, callee_signature, has_value, is_void, function_at, module_values, parameters, instructions, bodies}
use Rattle.bc_stream.specs.Blocks.{Contents}
use Rattle.bc_records.specs.Entries.{blocks_in}
use Rattle.bc_records.specs.ModuleRecords.{prototype_of, declaration_of}
use Rattle.bc_records.specs.BodyRecords.{BodyRecord, declare_blocks, return_record, call_record, body_entry, declared_blocks, instruction_records, InstructionRecorded, InstructionsRecorded, BodyRecorded, BodiesRecorded, first_value, next_value, filled_blocks}
use Rattle.bc_records.proofs.Back.{map_once, body_back, body_is_back}
use Rattle.bc_records.proofs.TablesOnce.{constants_once}
use Rattle.bc_records.proofs.ValueLemmas.{from_globals, value_count}

-- what a body's numbering rests on
abbrev type_numbers : List Function → List ℕ
type_numbers functions = map (λ f. f.ty) functions

signature_by : List Ty → List ℕ → ℕ → Option (ℕ × List ℕ)
signature_by types numbers v = option_and_then (signature types) (slice_get numbers v)

result_by : List Ty → Option (ℕ × List ℕ) → Option ℕ
result_by types found = option_and_then (λ s. option_and_then (λ t. if is_void t then None else Some s.0) (slice_get types s.0)) found

valued_by : List Ty → List ℕ → Inst → Bool
valued_by types numbers (Call function args) = is_some (result_by types (signature_by types numbers function))
valued_by types numbers (Store to value align) = false
valued_by types numbers (Jump target) = false
valued_by types numbers (Branch cond target otherwise) = false
valued_by types numbers Ret = false
valued_by types numbers _ = true

signature-at : (types : List Ty) (functions : List Function) (v : ℕ) →
    option_and_then (λ (f : Function). signature types f.ty) (slice_get functions v) ≡ option_and_then (signature types) (slice_get (type_numbers functions) v)
signature-at types [] v = refl
signature-at types (f ∷ fs) zero = refl
signature-at types (f ∷ fs) (suc v) = signature-at types fs v

callee_is : (m : Module) → m.globals ≡ [] → (v : ℕ) → callee_signature m v ≡ signature_by m.types (type_numbers m.functions) v
unfolding signature_by
callee_is m none v =
    let place : v - length m.globals ≡ v = omega (arith, ap length none) in
    let at : function_at m v ≡ slice_get m.functions v
    = from_globals m v (omega (arith, ap length none)) ∙ ap (slice_get m.functions) place in
    ap (option_and_then (λ (f : Function). signature m.types f.ty)) at ∙ signature-at m.types m.functions v

valued_is : (m : Module) → m.globals ≡ [] → (inst : Inst) → has_value m inst ≡ valued_by m.types (type_numbers m.functions) inst
unfolding valued_by result_by
valued_is m none (Call function args) = ap (λ s. is_some (result_by m.types s)) (callee_is m none function)
valued_is m none (Store to value align) = refl
valued_is m none (Jump target) = refl
valued_is m none (Branch cond target otherwise) = refl
valued_is m none Ret = refl
valued_is m none (Bin op left right) = refl
valued_is m none (Cast op value ty) = refl
valued_is m none (Cmp op left right) = refl
valued_is m none (Select left right cond) = refl
valued_is m none (Phi ty arms) = refl
valued_is m none (Alloca ty count align) = refl
valued_is m none (Gep ty base indexes) = refl
valued_is m none (Load ty from align) = refl
valued_is m none (Extract value index) = refl
valued_is m none (Rmw op to value) = refl
valued_is m none (CmpXchg to compare value) = refl

-- two modules that agree so far
pub record Agree (m n : Module) : Type 0 where
  pub types : m.types ≡ n.types
  pub numbers : map (λ (f : Function). f.ty) m.functions ≡ map (λ (f : Function). f.ty) n.functions
  pub consts : m.consts ≡ n.consts
  pub none : m.globals ≡ []
  pub no_others : n.globals ≡ []

abbrev block_of : List Inst → Block
block_of insts = record { insts = insts }

abbrev body_of : List Const → List Block → Body
body_of consts blocks = record { consts = consts; blocks = blocks }

body_same : (a b : Body) → a.consts ≡ b.consts → a.blocks ≡ b.blocks → a ≡ b
body_same a b consts blocks = ap (λ cs. body_of cs a.blocks) consts ∙ ap (body_of b.consts) blocks

abbrev function_of_parts : List ℕ → ℕ → Option Body → Function
function_of_parts name ty body = record { name = name; ty = ty; body = body }

function_same : (f g : Function) → f.name ≡ g.name → f.ty ≡ g.ty → f.body ≡ g.body → f ≡ g
function_same f g name ty body =
    ap (λ x. function_of_parts x f.ty f.body) name ∙ (ap (λ x. function_of_parts g.name x f.body) ty ∙ ap (function_of_parts g.name g.ty) body)

-- the one item of a list, and the first and the others
only : {A : Type 0} (x y : A) → x ∷ [] ≡ y ∷ [] → x ≡ y
only x y same = cc

pub parts_same : {A : Type 0} (x y : A) (xs ys : List A) → x ∷ xs ≡ y ∷ ys → (x ≡ y) × (xs ≡ ys)
parts_same x y xs ys same = ((cc), (cc))

module _ (m n : Module) (agree : Agree m n) where
  same_valued : (inst : Inst) → has_value m inst ≡ has_value n inst
  same_valued inst =
      valued_is m agree.none inst
      ∙ (ap (λ types. valued_by types (type_numbers m.functions) inst) agree.types
      ∙ (ap (λ numbers. valued_by n.types numbers inst) agree.numbers
      ∙ sym (valued_is n agree.no_others inst)))

  same_next : (next : ℕ) (inst : Inst) → next_value m next inst ≡ next_value n next inst
  same_next next inst = ap (λ b. if b then suc next else next) (same_valued inst)

  one_instruction : (next : ℕ) (r : BodyRecord) (i j : Inst) → InstructionRecorded m next r i → InstructionRecorded n next r j → i ≡ j
  one_instruction next (declare_blocks count) i j p q = absurd p
  one_instruction next return_record i j p q = p ∙ sym q
  one_instruction next (call_record attributes convention ty function args) i j p q = p.0 ∙ sym q.0

  instructions_once : (next : ℕ) (rs : List BodyRecord) (is js : List Inst) → InstructionsRecorded m next rs is → InstructionsRecorded n next rs js → is ≡ js
  instructions_once next [] [] [] p q = refl
  instructions_once next [] [] (j ∷ js) p q = absurd q
  instructions_once next [] (i ∷ is) js p q = absurd p
  instructions_once next (r ∷ rs) [] js p q = absurd p
  instructions_once next (r ∷ rs) (i ∷ is) [] p q = absurd q
  instructions_once next (r ∷ rs) (i ∷ is) (j ∷ js) p q =
      let same : i ≡ j = one_instruction next r i j p.0 q.0 in
      let place : next_value m next i ≡ next_value n next j = same_next next i ∙ ap (next_value n next) same in
      ap (λ x. x ∷ is) same
      ∙ ap (λ xs. j ∷ xs) (instructions_once (next_value n next j) rs is js (subst (λ v. InstructionsRecorded m v rs is) place p.1) q.1)

  same_first : (f g : Function) (a b : Body) → f.ty ≡ g.ty → a.consts ≡ b.consts → first_value m f a ≡ first_value n g b
  same_first f g a b ty consts =
      let functions : length m.functions ≡ length n.functions
      = sym (length-map m.functions (λ (h : Function). h.ty)) ∙ (ap length agree.numbers ∙ length-map n.functions (λ (h : Function). h.ty)) in
      let values : length (module_values m) ≡ length (module_values n)
      = omega (arith, value_count m, value_count n, functions, ap length agree.none, ap length agree.no_others, ap length agree.consts) in
      let params : parameters m f ≡ parameters n g
      = ap (λ types. option_map_or (λ (p : ℕ × List ℕ). p.1) (signature types f.ty) []) agree.types
      ∙ ap (λ t. option_map_or (λ (p : ℕ × List ℕ). p.1) (signature n.types t) []) ty in
      ap (λ k. k + (length (parameters m f) + length a.consts)) values
      ∙ (ap (λ ps. length (module_values n) + (length ps + length a.consts)) params
      ∙ ap (λ cs. length (module_values n) + (length (parameters n g) + length cs)) consts)

  body_once : (f g : Function) (block : Contents) (a b : Body) → f.ty ≡ g.ty → BodyRecorded m f block a → BodyRecorded n g block b → a ≡ b
  body_once f g block a b ty r s =
      let records : r.records ≡ s.records = map_once body_entry body_back body_is_back r.records s.records (sym r.spelled ∙ s.spelled) in
      let consts : a.consts ≡ b.consts = constants_once (length m.types) (length n.types) (blocks_in 11 block) a.consts b.consts r.constants s.constants in
      let number : length a.blocks ≡ length b.blocks = only _ _ (sym r.number ∙ (ap declared_blocks records ∙ s.number)) in
      let code : InstructionsRecorded m (first_value n g b) (instruction_records s.records) (instructions a)
      = subst (λ v. InstructionsRecorded m v (instruction_records s.records) (instructions a)) (same_first f g a b ty consts)
      (subst (λ rs. InstructionsRecorded m (first_value m f a) (instruction_records rs) (instructions a)) records r.code) in
      let insts : instructions a ≡ instructions b = instructions_once (first_value n g b) (instruction_records s.records) (instructions a) (instructions b) code s.code in
      let long_a : length a.blocks ≡ length (filled_blocks (instructions a)) + r.empty
      = sym (length-map a.blocks (λ (k : Block). k.insts))
      ∙ (ap length r.filled ∙ (length-append (filled_blocks (instructions a)) (replicate r.empty []) ∙ ap (λ k. length (filled_blocks (instructions a)) + k) (length-replicate r.empty []))) in
      let long_b : length b.blocks ≡ length (filled_blocks (instructions b)) + s.empty
      = sym (length-map b.blocks (λ (k : Block). k.insts))
      ∙ (ap length s.filled ∙ (length-append (filled_blocks (instructions b)) (replicate s.empty []) ∙ ap (λ k. length (filled_blocks (instructions b)) + k) (length-replicate s.empty []))) in
      let empty : r.empty ≡ s.empty = omega (arith, number, long_a, long_b, ap (λ is. length (filled_blocks is)) insts) in
      let blocks : map (λ (k : Block). k.insts) a.blocks ≡ map (λ (k : Block). k.insts) b.blocks
      = r.filled ∙ (ap (λ is. filled_blocks is ++ replicate r.empty []) insts ∙ (ap (λ k. filled_blocks (instructions b) ++ replicate k []) empty ∙ sym s.filled)) in
      body_same a b consts (map_once (λ (k : Block). k.insts) block_of (λ k. refl) a.blocks b.blocks blocks)

  -- one function more
  one_more : (f g : Function) (p q : Option Body) (fs gs : List Function) (blocks : List Contents) → f.body ≡ p → g.body ≡ q → f.ty ≡ g.ty → f.name ≡ g.name →
      prototype_of p ≡ prototype_of q →
      BodiesRecorded m blocks (option_map_or (λ b. (f, b) ∷ bodies fs) p (bodies fs)) →
      BodiesRecorded n blocks (option_map_or (λ b. (g, b) ∷ bodies gs) q (bodies gs)) →
      ((others : List Contents) → BodiesRecorded m others (bodies fs) → BodiesRecorded n others (bodies gs) → fs ≡ gs) →
      f ∷ fs ≡ g ∷ gs
  one_more f g None None fs gs blocks p_is q_is ty name kind r s rest =
      ap (λ h. h ∷ fs) (function_same f g name ty (p_is ∙ sym q_is)) ∙ ap (λ hs. g ∷ hs) (rest blocks r s)
  one_more f g None (Some b) fs gs blocks p_is q_is ty name kind r s rest = absurd (omega arith)
  one_more f g (Some a) None fs gs blocks p_is q_is ty name kind r s rest = absurd (omega arith)
  one_more f g (Some a) (Some b) fs gs [] p_is q_is ty name kind r s rest = absurd r
  one_more f g (Some a) (Some b) fs gs (block ∷ blocks) p_is q_is ty name kind r s rest =
      ap (λ h. h ∷ fs) (function_same f g name ty (p_is ∙ (ap Some (body_once f g block a b ty r.0 s.0) ∙ sym q_is)))
      ∙ ap (λ hs. g ∷ hs) (rest blocks r.1 s.1)

  pub functions_once : (fs gs : List Function) (blocks : List Contents) → map declaration_of fs ≡ map declaration_of gs →
      map (λ (f : Function). f.name) fs ≡ map (λ (f : Function). f.name) gs →
      BodiesRecorded m blocks (bodies fs) → BodiesRecorded n blocks (bodies gs) → fs ≡ gs
  functions_once [] [] blocks declared named r s = refl
  functions_once [] (g ∷ gs) blocks declared named r s = absurd (omega (arith, ap length declared))
  functions_once (f ∷ fs) [] blocks declared named r s = absurd (omega (arith, ap length declared))
  functions_once (f ∷ fs) (g ∷ gs) blocks declared named r s =
      let ds : (declaration_of f ≡ declaration_of g) × (map declaration_of fs ≡ map declaration_of gs)
      = parts_same (declaration_of f) (declaration_of g) (map declaration_of fs) (map declaration_of gs) declared in
      let ns : (f.name ≡ g.name) × (map (λ (h : Function). h.name) fs ≡ map (λ (h : Function). h.name) gs)
      = parts_same f.name g.name (map (λ (h : Function). h.name) fs) (map (λ (h : Function). h.name) gs) named in
      one_more f g f.body g.body fs gs blocks refl refl (ap (λ (d : ℕ × ℕ). d.0) ds.0) ns.0 (ap (λ (d : ℕ × ℕ). d.1) ds.0) r s
      (λ others p q. functions_once fs gs others ds.1 ns.1 p q)
