-- The module of a kernel of literal stores is whole.
use Rattle.std.proofs.Common.{◌≡◌, ℕ, ◌+◌, ◌<◌, true, false, nat_lt, length, map, List, [], ◌∷◌, ◌++◌, Option, Some, None, IsSome, refl, sym, ap, ◌∙◌, subst, arith, lit<}
use Rattle.std.proofs.lemmas.Bool.{ltb-true}
use Rattle.std.proofs.lemmas.List.{length-map, length-append}
use Rattle.std.proofs.lemmas.List.Elements.{All-from_recursion, All-nil, All-cons, All-append, All-map, All-weaker}
use Rattle.std.proofs.lemmas.Option.{slice_get_within}
use Rattle.std.specs.List.{All, list_all, filter}
use Rattle.ir_core.specs.declared.instruction.Inst.{Inst}
use Rattle.ir_core.specs.declared.instruction.Inst.TheVariants.{Ret}
use Rattle.ir_core.specs.declared.instruction.Body.{Body}
use Rattle.ir_core.specs.declared.module.Const.{Const}
use Rattle.ir_core.specs.declared.module.Function.{Function}
use Rattle.ir_core.specs.declared.module.Module.{Module}
use Rattle.ir_core.specs.Values.{Value, constant_value, instruction_value, call_result, has_value, instructions, module_values, body_values, signature}
use Rattle.ir_core.specs.Soundness.{Names, IsAlignment, IsSoundInst, IsSoundBody, IsSound, IsWhole, EachHasType, ends_block, EndsOnce}
use Rattle.ir_core.proofs.SoundModules.{all_by_test, names_by_test, types_by_test, metas_by_test, HasOwnType, own_types}
use Rattle.dxil_driver.specs.Emitted.{emitted_types, emitted_constants, word_constant, opcode_constants, body_constants, create_handle, buffer_store, emitted_body, entry_function, emitted_functions, emitted_metas, emitted_named, emitted_module, Picks}
use Rattle.dxil_driver.specs.declared.stores.LiteralStore.{LiteralStore}
use Rattle.dxil_driver.specs.Places.{IsWithin}

-- instructions

-- one that ends no block, before those that end it once
ends_later : (inst : Inst) (rest : List Inst) → ends_block inst ≡ false → EndsOnce rest → EndsOnce (inst ∷ rest)
ends_later inst [] e h = absurd h
ends_later inst (next ∷ rest) e h = (e, h)

stores_end : (handle : ℕ) (pairs : List (ℕ × ℕ)) → EndsOnce (map (buffer_store handle) pairs ++ Ret ∷ [])
stores_end handle [] = refl
stores_end handle (pair ∷ pairs) =
    ends_later (buffer_store handle pair) (map (buffer_store handle) pairs ++ Ret ∷ []) refl (stores_end handle pairs)

-- where function 2 gives nothing, stores have no values
stores_valueless : (m : Module) (handle : ℕ) (pairs : List (ℕ × ℕ)) → call_result m 2 ≡ None → filter (has_value m) ((map (buffer_store handle) pairs ++ Ret ∷ []) ++ []) ≡ []
stores_valueless m handle [] e = refl
stores_valueless m handle (pair ∷ pairs) e = rw e (stores_valueless m handle pairs e)

-- constants

abbrev IsTyped : ℕ → Const → Type 0
IsTyped types c = Names types c.ty

consts_typed : (types : ℕ) (consts : List Const) → list_all (λ c. nat_lt c.ty types) consts ≡ true → All (IsTyped types) consts
consts_typed types = all_by_test (IsTyped types) (λ c. nat_lt c.ty types) (λ c h. ltb-true c.ty types h)

-- without a buffer

module _ (entry threads words : List ℕ) (pairs : List (ℕ × ℕ)) where
  abbrev plain_module : Module
  unfolding emitted_module
  plain_module = emitted_module entry None threads words pairs

  abbrev plain_body : Body
  plain_body = emitted_body None words pairs

  plain_typed : EachHasType plain_module (module_values plain_module)
  unfolding emitted_module
  plain_typed =
      let own : (n : ℕ) (of : ℕ → Option ℕ) → true ≡ true = λ n of. refl in
      own_types plain_module (module_values plain_module) (All-from_recursion (HasOwnType plain_module (module_values plain_module)) (module_values plain_module) (own 0, (own 1, (own 2, (own 3, (own 4, (own 5, (own 6, (own 7, (own 8, tt))))))))))

  plain_body_sound : IsSoundBody plain_module (entry_function entry plain_body) plain_body
  unfolding emitted_module
  plain_body_sound = record {
    consts = All-nil (IsTyped 5);
    insts = All-cons (IsSoundInst plain_module 9 1) Ret [] tt (All-nil (IsSoundInst plain_module 9 1));
    typed = plain_typed;
  }

  plain_sound : IsSound plain_module
  unfolding emitted_module
  plain_sound = record {
    types = types_by_test 5 (emitted_types None) refl;
    globals = All-nil (λ g. Names 5 g.ty × IsAlignment g.align);
    functions = All-cons (λ f. IsSome (signature (emitted_types None) f.ty)) (entry_function entry plain_body) [] refl (All-nil (λ f. IsSome (signature (emitted_types None) f.ty)));
    consts = consts_typed 5 (emitted_constants None threads) refl;
    typed = plain_typed;
    metas = metas_by_test 5 9 16 (emitted_metas entry None) refl;
    named = All-from_recursion (λ n. All (Names 16) n.ids) (emitted_named None) (names_by_test 16 (2 ∷ []) refl, (names_by_test 16 (5 ∷ []) refl, (names_by_test 16 (15 ∷ []) refl, tt)));
    bodies_sound = All-cons (λ b. IsSoundBody plain_module b.0 b.1) (entry_function entry plain_body, plain_body) [] plain_body_sound (All-nil (λ b. IsSoundBody plain_module b.0 b.1));
  }

  pub plain_whole : IsWhole (emitted_module entry None threads words pairs)
  unfolding emitted_module
  plain_whole = record {
    sound = plain_sound;
    few_bodies = lit< tt;
    ended = All-cons (λ b. All (λ k. EndsOnce k.insts) b.1.blocks) (entry_function entry plain_body, plain_body) [] (All-from_recursion (λ k. EndsOnce k.insts) plain_body.blocks (refl, tt)) (All-nil (λ b. All (λ k. EndsOnce k.insts) b.1.blocks));
  }

-- with a buffer

module _ (entry name threads words : List ℕ) (pairs : List (ℕ × ℕ)) where
  abbrev buffer_module : Module
  unfolding emitted_module
  buffer_module = emitted_module entry (Some name) threads words pairs

  abbrev buffer_body : Body
  buffer_body = emitted_body (Some name) words pairs

  -- the handle alone is an instruction's value
  values_are : body_values buffer_module (entry_function entry buffer_body) buffer_body ≡ module_values buffer_module ++ (map constant_value (body_constants words) ++ instruction_value create_handle ∷ [])
  unfolding emitted_module
  values_are =
      ap (λ insts. module_values buffer_module ++ (map constant_value (body_constants words) ++ instruction_value create_handle ∷ map instruction_value insts)) (stores_valueless buffer_module (18 + length words) pairs refl)

  count_is : length (body_values buffer_module (entry_function entry buffer_body) buffer_body) ≡ 19 + length words
  unfolding emitted_module
  count_is =
      ap length values_are ∙ omega (arith, length-append (map constant_value (map word_constant words)) (instruction_value create_handle ∷ []), length-map (map word_constant words) constant_value, length-map words word_constant)

  handle_sound : (n : ℕ) → n ≡ 19 + length words → IsSoundInst buffer_module n 1 create_handle
  unfolding emitted_module
  handle_sound n e =
      (refl, All-from_recursion (Names n) (15 ∷ 14 ∷ 4 ∷ 4 ∷ 12 ∷ []) (omega (arith, e), (omega (arith, e), (omega (arith, e), (omega (arith, e), (omega (arith, e), tt))))))

  store_sound : (n : ℕ) → n ≡ 19 + length words → (pair : ℕ × ℕ) → IsWithin words pair → IsSoundInst buffer_module n 1 (buffer_store (18 + length words) pair)
  unfolding emitted_module
  store_sound n e pair within =
      let h : pair.0 < length words = within.0 in
      let k : pair.1 < length words = within.1 in
      (refl, All-from_recursion (Names n) (16 ∷ (18 + length words) ∷ (18 + pair.0) ∷ 17 ∷ (18 + pair.1) ∷ 17 ∷ 17 ∷ 17 ∷ 14 ∷ []) (omega (arith, e), (omega (arith, e), (omega (arith, e, h), (omega (arith, e), (omega (arith, e, k), (omega (arith, e), (omega (arith, e), (omega (arith, e), (omega (arith, e), tt))))))))))

  insts_sound : (n : ℕ) → n ≡ 19 + length words → All (IsWithin words) pairs → All (IsSoundInst buffer_module n 1) (instructions buffer_body)
  unfolding emitted_module
  insts_sound n e within =
      let P : Inst → Type 0 = IsSoundInst buffer_module n 1 in
      let stores : All P (map (buffer_store (18 + length words)) pairs) = All-map P (buffer_store (18 + length words)) pairs (All-weaker (IsWithin words) (λ pair. P (buffer_store (18 + length words) pair)) (store_sound n e) pairs within) in
      let ended : All P (map (buffer_store (18 + length words)) pairs ++ Ret ∷ []) = All-append P (map (buffer_store (18 + length words)) pairs) (Ret ∷ []) stores (All-cons P Ret [] tt (All-nil P)) in
      All-cons P create_handle ((map (buffer_store (18 + length words)) pairs ++ Ret ∷ []) ++ []) (handle_sound n e) (All-append P (map (buffer_store (18 + length words)) pairs ++ Ret ∷ []) [] ended (All-nil P))

  module_own : (values : List Value) → All (HasOwnType buffer_module values) (module_values buffer_module)
  unfolding emitted_module
  module_own values =
      let own : (n : ℕ) (of : ℕ → Option ℕ) → true ≡ true = λ n of. refl in
      All-from_recursion (HasOwnType buffer_module values) (module_values buffer_module) (own 0, (own 1, (own 2, (own 3, (own 4, (own 5, (own 6, (own 7, (own 8, (own 9, (own 10, (own 11, (own 12, (own 13, tt))))))))))))))

  body_own : (values : List Value) → All (HasOwnType buffer_module values) (map constant_value (body_constants words) ++ instruction_value create_handle ∷ [])
  unfolding emitted_module
  body_own values =
      let P : Value → Type 0 = HasOwnType buffer_module values in
      let own : (n : ℕ) (of : ℕ → Option ℕ) → true ≡ true = λ n of. refl in
      let opcodes : All P (map constant_value opcode_constants) = All-from_recursion P (map constant_value opcode_constants) (own 0, (own 1, (own 2, (own 3, tt)))) in
      let numbers : All P (map constant_value (map word_constant words)) = All-map P constant_value (map word_constant words) (All-map (λ c. P (constant_value c)) word_constant words (λ k d h of. refl)) in
      let handle : All P (instruction_value create_handle ∷ []) = All-cons P (instruction_value create_handle) [] (own 0) (All-nil P) in
      All-append P (map constant_value opcode_constants) (map constant_value (map word_constant words) ++ instruction_value create_handle ∷ []) opcodes (All-append P (map constant_value (map word_constant words)) (instruction_value create_handle ∷ []) numbers handle)

  body_typed : EachHasType buffer_module (body_values buffer_module (entry_function entry buffer_body) buffer_body)
  body_typed =
      let values : List Value = body_values buffer_module (entry_function entry buffer_body) buffer_body in
      let P : Value → Type 0 = HasOwnType buffer_module values in
      own_types buffer_module values (subst (λ list. All P list) (sym values_are) (All-append P (module_values buffer_module) (map constant_value (body_constants words) ++ instruction_value create_handle ∷ []) (module_own values) (body_own values)))

  body_consts_typed : All (IsTyped 14) (body_constants words)
  body_consts_typed =
      All-append (IsTyped 14) opcode_constants (map word_constant words) (consts_typed 14 opcode_constants refl) (All-map (IsTyped 14) word_constant words (λ k d h. lit< tt))

  buffer_body_sound : All (IsWithin words) pairs → IsSoundBody buffer_module (entry_function entry buffer_body) buffer_body
  unfolding emitted_module
  buffer_body_sound within = record {
    consts = body_consts_typed;
    insts = insts_sound (length (body_values buffer_module (entry_function entry buffer_body) buffer_body)) count_is within;
    typed = body_typed;
  }

  buffer_sound : All (IsWithin words) pairs → IsSound buffer_module
  unfolding emitted_module
  buffer_sound within =
      let HasSignature : Function → Type 0 = λ f. IsSome (signature (emitted_types (Some name)) f.ty) in
      record {
        types = types_by_test 14 (emitted_types (Some name)) refl;
        globals = All-nil (λ g. Names 14 g.ty × IsAlignment g.align);
        functions = All-from_recursion HasSignature (emitted_functions entry (Some name) buffer_body) (refl, (refl, (refl, tt)));
        consts = consts_typed 14 (emitted_constants (Some name) threads) refl;
        typed = own_types buffer_module (module_values buffer_module) (module_own (module_values buffer_module));
        metas = metas_by_test 14 14 23 (emitted_metas entry (Some name)) refl;
        named = All-from_recursion (λ n. All (Names 23) n.ids) (emitted_named (Some name)) (names_by_test 23 (2 ∷ []) refl, (names_by_test 23 (5 ∷ []) refl, (names_by_test 23 (21 ∷ []) refl, (names_by_test 23 (22 ∷ []) refl, tt))));
        bodies_sound = All-cons (λ b. IsSoundBody buffer_module b.0 b.1) (entry_function entry buffer_body, buffer_body) [] (buffer_body_sound within) (All-nil (λ b. IsSoundBody buffer_module b.0 b.1));
      }

  pub buffer_whole : All (IsWithin words) pairs → IsWhole (emitted_module entry (Some name) threads words pairs)
  unfolding emitted_module
  buffer_whole within = record {
    sound = buffer_sound within;
    few_bodies = lit< tt;
    ended = All-cons (λ b. All (λ k. EndsOnce k.insts) b.1.blocks) (entry_function entry buffer_body, buffer_body) [] (All-from_recursion (λ k. EndsOnce k.insts) buffer_body.blocks (ends_later create_handle (map (buffer_store (18 + length words)) pairs ++ Ret ∷ []) refl (stores_end (18 + length words) pairs), tt)) (All-nil (λ b. All (λ k. EndsOnce k.insts) b.1.blocks));
  }

-- the module of any stores whose pairs are among the words is whole
pub emitted_whole : (entry : List ℕ) (buffer : Option (List ℕ)) (threads words : List ℕ) (pairs : List (ℕ × ℕ)) → All (IsWithin words) pairs → IsWhole (emitted_module entry buffer threads words pairs)
emitted_whole entry None threads words pairs within = plain_whole entry threads words pairs
emitted_whole entry (Some name) threads words pairs within = buffer_whole entry name threads words pairs within

-- pairs that stand for stores are among the words
pub picks_within : (words : List ℕ) (pairs : List (ℕ × ℕ)) (stores : List LiteralStore) → Picks words pairs stores → All (IsWithin words) pairs
picks_within words [] stores h = All-nil (IsWithin words)
picks_within words (p ∷ ps) [] h = absurd h
picks_within words (p ∷ ps) (s ∷ ss) h =
    All-cons (IsWithin words) p ps (slice_get_within words p.0 s.address h.0.0, slice_get_within words p.1 s.word h.0.1) (picks_within words ps ss h.1)
