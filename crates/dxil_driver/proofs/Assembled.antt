-- The tables together are the module.
use Rattle.std.proofs.Common.{◌≡◌, ℕ, List, [], refl}
use Rattle.std.specs.List.{All}
use Rattle.std.specs.declared.option.Option.{Option}
use Rattle.ir_core.specs.declared.instruction.Body.{Body}
use Rattle.ir_core.specs.declared.module.Ty.{Ty}
use Rattle.ir_core.specs.declared.module.Const.{Const}
use Rattle.ir_core.specs.declared.module.Function.{Function}
use Rattle.ir_core.specs.declared.module.GlobalVar.{GlobalVar}
use Rattle.ir_core.specs.declared.module.Meta.{Meta}
use Rattle.ir_core.specs.declared.module.Named.{Named}
use Rattle.ir_core.specs.declared.module.Module.{Module}
use Rattle.ir_core.specs.Metadata.{dxil_triple, dxil_layout}
use Rattle.dxil_driver.specs.Emitted.{emitted_types, emitted_body, emitted_functions, emitted_constants, emitted_metas, emitted_named, emitted_module, IsWord, words_from, Picks, IsEmitted}
use Rattle.dxil_driver.specs.declared.stores.LiteralStore.{LiteralStore}

pub assembled : (entry : List ℕ) (buffer : Option (List ℕ)) (threads words : List ℕ) (pairs : List (ℕ × ℕ)) (triple layout : List ℕ) (types : List Ty) (globals : List GlobalVar) (body : Body) (functions : List Function) (consts : List Const) (metas : List Meta) (named : List Named) → triple ≡ dxil_triple → layout ≡ dxil_layout → types ≡ emitted_types buffer → globals ≡ [] → body ≡ emitted_body buffer words pairs → functions ≡ emitted_functions entry buffer body → consts ≡ emitted_constants buffer threads → metas ≡ emitted_metas entry buffer → named ≡ emitted_named buffer → (let m : Module = record { triple = triple; layout = layout; types = types; globals = globals; functions = functions; consts = consts; metas = metas; named = named } in m) ≡ emitted_module entry buffer threads words pairs
unfolding emitted_module
assembled entry buffer threads words pairs triple layout types globals body functions consts metas named t l ty g b f c m n =
    rw t (rw l (rw ty (rw g (rw f (rw b (rw c (rw m (rw n refl))))))))

-- what the tables' functions say, about slices of the lists, gives that the module is the kernel's
pub is_emitted : (entry : List ℕ) (buffer : Option (List ℕ)) (threads : List ℕ) (stores seen : List LiteralStore) (words word_slice : List ℕ) (pairs pair_slice : List (ℕ × ℕ)) (body : Body) (m : Module) → seen ≡ stores → word_slice ≡ words → pair_slice ≡ pairs → words ≡ words_from [] seen → All IsWord words → Picks words pairs seen → body ≡ emitted_body buffer word_slice pair_slice → (body ≡ emitted_body buffer words pairs → m ≡ emitted_module entry buffer threads words pairs) → IsEmitted entry buffer threads stores m
is_emitted entry buffer threads stores seen words word_slice pairs pair_slice body m s w p distinct fit picks b same =
    record { words = words; pairs = pairs; distinct = rw s at distinct; fit = fit; picks = rw s at picks; same = same (rw (w, p) at b) }
