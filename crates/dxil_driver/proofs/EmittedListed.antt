-- The records of an emitted module are among those that are written.
use Rattle.std.proofs.Common.{ℕ, ◌+◌, List, [], ◌∷◌, ◌++◌, map, length, Option, Some, None, refl}
use Rattle.std.proofs.lemmas.List.Elements.{All-from_recursion, All-nil, All-cons, All-append, All-map}
use Rattle.std.specs.List.{All}
use Rattle.ir_core.specs.declared.instruction.Body.{Body}
use Rattle.ir_core.specs.declared.instruction.Inst.TheVariants.{Ret}
use Rattle.ir_core.specs.declared.module.Function.{Function}
use Rattle.ir_core.specs.Values.{instructions}
use Rattle.bc_records.specs.FirstList.{IsListedType, IsListedInst, IsListed}
use Rattle.dxil_driver.specs.Emitted.{emitted_types, buffer_store, create_handle, emitted_body, entry_function, emitted_module}

abbrev IsListedBody : Function × Body → Type 0
IsListedBody b = All IsListedInst (instructions b.1)

types_listed : (buffer : Option (List ℕ)) → All IsListedType (emitted_types buffer)
types_listed None =
    All-from_recursion IsListedType (emitted_types None) (tt, (tt, (tt, (tt, (tt, tt)))))
types_listed (Some name) =
    All-from_recursion IsListedType (emitted_types (Some name)) (tt, (tt, (tt, (tt, (tt, (tt, (tt, (tt, (refl, (tt, (tt, (tt, (tt, (tt, tt))))))))))))))

-- the handle's call, the stores and the end
insts_listed : (handle : ℕ) (pairs : List (ℕ × ℕ)) → All IsListedInst (create_handle ∷ ((map (buffer_store handle) pairs ++ Ret ∷ []) ++ []))
insts_listed handle pairs =
    let stores : All IsListedInst (map (buffer_store handle) pairs) = All-map IsListedInst (buffer_store handle) pairs (λ k d h. tt) in
    let ended : All IsListedInst (map (buffer_store handle) pairs ++ Ret ∷ []) = All-append IsListedInst (map (buffer_store handle) pairs) (Ret ∷ []) stores (All-cons IsListedInst Ret [] tt (All-nil IsListedInst)) in
    All-cons IsListedInst create_handle ((map (buffer_store handle) pairs ++ Ret ∷ []) ++ []) tt (All-append IsListedInst (map (buffer_store handle) pairs ++ Ret ∷ []) [] ended (All-nil IsListedInst))

body_listed : (entry : List ℕ) (buffer : Option (List ℕ)) (words : List ℕ) (pairs : List (ℕ × ℕ)) → IsListedBody (entry_function entry (emitted_body buffer words pairs), emitted_body buffer words pairs)
body_listed entry None words pairs = All-cons IsListedInst Ret [] tt (All-nil IsListedInst)
body_listed entry (Some name) words pairs = insts_listed (18 + length words) pairs

-- the module has no variables, and its types and instructions have records
pub emitted_listed : (entry : List ℕ) (buffer : Option (List ℕ)) (threads words : List ℕ) (pairs : List (ℕ × ℕ)) → IsListed (emitted_module entry buffer threads words pairs)
unfolding emitted_module
emitted_listed entry None threads words pairs = record {
  types = types_listed None;
  globals = refl;
  code = All-cons IsListedBody (entry_function entry (emitted_body None words pairs), emitted_body None words pairs) [] (body_listed entry None words pairs) (All-nil IsListedBody);
}
emitted_listed entry (Some name) threads words pairs = record {
  types = types_listed (Some name);
  globals = refl;
  code = All-cons IsListedBody (entry_function entry (emitted_body (Some name) words pairs), emitted_body (Some name) words pairs) [] (body_listed entry (Some name) words pairs) (All-nil IsListedBody);
}
