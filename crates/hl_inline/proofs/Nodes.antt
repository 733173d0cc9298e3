-- What becomes of an expression that isn't a call does what the expression does.
use Rattle.std.proofs.Common.{◌≡◌, ◌∙◌, refl, sym, ap, subst, ℕ, true, false, List, map, length}
use Rattle.std.proofs.lemmas.List.{length-map}
use Rattle.std.proofs.lemmas.Bool.{true≢false}
use Rattle.lane_core.specs.Lane.{Lane}
use Rattle.hl_meaning.specs.Types.{Ty}
use Rattle.hl_meaning.specs.Trees.{Expr, Form, an_expr, atomic_form, binary_form, build_form, call_form, choose_form, convert_form, intrinsic_form, literal_form, method_form, pick_form, read_form, type_of, unary_form, write_form}
use Rattle.hl_meaning.specs.Programs.{Variable}
use Rattle.hl_source.specs.State.{Context, State, after}
use Rattle.hl_source.specs.Expressions.{acts, evaluates}
use Rattle.hl_inline.specs.FlatTrees.{Flat}
use Rattle.hl_inline.specs.FlatLane.{flat_context}
use Rattle.typed_laws.proofs.OperandExpressions.{operand_exprs}
use Rattle.hl_inline.specs.Operands.{filled}
use Rattle.hl_inline.specs.EmittedExpressions.{is_literal_form, node, over}
use Rattle.hl_inline.specs.Emitting.{Emitter, Values, emit_all}
use Rattle.hl_inline.specs.Fresh.{Fresh, Instance, next_of}
use Rattle.typed_laws.proofs.Induction.{Every}
use Rattle.typed_laws.proofs.ProgressLemmas.{after_cong, after_giving}
use Rattle.typed_laws.proofs.OperandValues.{evaluate_all, grouped, is_call_form, operands_all}
use Rattle.hl_inline.proofs.FilledLemmas.{filled_grouped, filled_not_call, filled_operands}
use Rattle.hl_inline.proofs.Relation.{Keeps, Stands, flat_of_context}
use Rattle.hl_inline.proofs.Reading.{Acting}
use Rattle.hl_inline.proofs.Acts.{FormIn, SameTypes, alike_acts}
use Rattle.hl_inline.proofs.Performing.{Opens, alike_map, opens_same, opens_then, perform}
use Rattle.hl_inline.proofs.Emission.{ClosesAs, Emits, HasRoom, Later, OpensAs, all_grow, all_names, all_open, all_quiet, all_typed, keeps_refl}
use Rattle.typed_laws.proofs.Sound.{HasValue}

module _ (c : Context) (V : List Variable) (first : ℕ) (stands : Stands c V first) (f : Flat) (lane : Lane) (n : ℕ) (known : flat_context f lane ≡ flat_of_context c V) where
  -- a form evaluates its operands in order, and then acts
  form_evaluates : (d : Context) (ty : Ty) (at : ℕ) (form : Form) (s : State) → is_call_form form ≡ false →
      evaluates d (an_expr ty at form) s ≡ after (evaluate_all d (operand_exprs form) s) (λ ws s1. acts d ty form (grouped form ws) s1)
  form_evaluates d ty at form s plain =
      ap (λ p. after p (acts d ty form)) (operands_all d form s plain) ∙ after_giving (grouped form) (evaluate_all d (operand_exprs form) s) (acts d ty form)

  -- so does the form over other expressions
  filled_evaluates : (d : Context) (ty : Ty) (at : ℕ) (form : Form) (es : List Expr) (u : State) → is_call_form form ≡ false → SameTypes es (operand_exprs form) →
      evaluates d (an_expr ty at (filled first form es)) u ≡ after (evaluate_all d es u) (λ ws u1. acts d ty (filled first form es) (grouped form ws) u1)
  filled_evaluates d ty at form es u plain types =
      form_evaluates d ty at (filled first form es) u (filled_not_call first form es plain) ∙
      (ap (λ l. after (evaluate_all d l u) (λ ws u1. acts d ty (filled first form es) (grouped (filled first form es) ws) u1)) (filled_operands first form es plain same_length) ∙
      after_cong (evaluate_all d es u) _ _ (λ ws u1. ap (λ g. acts d ty (filled first form es) g u1) (filled_grouped first form es ws)))
    where
      same_length : length es ≡ length (operand_exprs form)
      same_length = sym (length-map es type_of) ∙ (ap length types ∙ length-map (operand_exprs form) type_of)

  -- what acts alike keeps what was kept before
  later_acting : (D : ℕ → Type 0) (below : ℕ) (t : State) (s u : State) → Later c V first D below t s u → (s1 u1 : State) → Acting c V first D u s1 u1 → Later c V first D below t s1 u1
  later_acting D below t s u later s1 u1 acting = (acting.0, λ w lower outside. acting.1 w outside ∙ later.1 w lower outside)

  node_opens : (D : ℕ → Type 0) (i : Instance) (ty : Ty) (at : ℕ) (form : Form) (em : Expr → Emitter) → i.first ≡ first → is_call_form form ≡ false → FormIn c D form →
      Every (λ e. Emits c V first stands f lane n known D e (em e)) (operand_exprs form) → Every (HasValue c) (operand_exprs form) → (fresh : Fresh) →
      HasRoom c V first stands f lane n known fresh (emit_all false (map em (operand_exprs form)) fresh).fresh →
      OpensAs c V first stands f lane n known D (an_expr ty at form) fresh (over i ty at form (emit_all false (map em (operand_exprs form)) fresh))
  node_opens D i ty at form em is plain inside emits value fresh room s t r =
      subst (λ p. Opens (Keeps first (length c.scope.variables) (next_of fresh) t) (Later c V first D (next_of fresh) t) p (perform f lane n x.code t) (evaluates (flat_of_context c V) (an_expr ty at (filled i.first form x.values))))
      (sym (form_evaluates c ty at form s plain))
      (opens_same _ _ _ _ _ (evaluates (flat_of_context c V) (an_expr ty at (filled i.first form x.values)))
      (λ u. ap (λ k. evaluates (flat_of_context c V) (an_expr ty at (filled k form x.values)) u) is ∙ filled_evaluates (flat_of_context c V) ty at form x.values u plain types)
      (opens_then (Keeps first (length c.scope.variables) (next_of fresh) t) (Later c V first D (next_of fresh) t) (Later c V first D (next_of fresh) t) (evaluate_all c (operand_exprs form) s) (perform f lane n x.code t)
      (evaluate_all (flat_of_context c V) x.values) (λ ws s1. acts c ty form (grouped form ws) s1) (λ ws u1. acts (flat_of_context c V) ty (filled first form x.values) (grouped form ws) u1)
      (all_open c V first stands f lane n known D em (operand_exprs form) emits value fresh room s t r)
      (λ ws s1 u1 later. alike_map (Acting c V first D u1) (Later c V first D (next_of fresh) t) (later_acting D (next_of fresh) t s1 u1 later) _ _
      (alike_acts c V first D u1 stands ty form x.values plain inside types (grouped form ws) s1 u1 (later.0, λ w outside. refl)))))
    where
      x : Values
      x = emit_all false (map em (operand_exprs form)) fresh

      types : SameTypes (emit_all false (map em (operand_exprs form)) fresh).values (operand_exprs form)
      types = all_typed c V first stands f lane n known D em (operand_exprs form) emits false fresh

  -- a literal stays
  node_closes : (D : ℕ → Type 0) (i : Instance) (ty : Ty) (at : ℕ) (form : Form) (em : Expr → Emitter) (fresh : Fresh) → is_literal_form form ≡ true →
      ClosesAs c V first stands f lane n known D (an_expr ty at form) fresh (over i ty at form (emit_all false (map em (operand_exprs form)) fresh))
  node_closes D i ty at (literal_form word) em fresh _ = λ s t r. (t, refl, ((r, keeps_refl first (length c.scope.variables) (next_of fresh) t), λ v keep. refl))
  node_closes D i ty at (read_form place) em fresh e = absurd (true≢false (sym e))
  node_closes D i ty at (write_form to op common value old) em fresh e = absurd (true≢false (sym e))
  node_closes D i ty at (convert_form value) em fresh e = absurd (true≢false (sym e))
  node_closes D i ty at (unary_form op value) em fresh e = absurd (true≢false (sym e))
  node_closes D i ty at (binary_form op left right) em fresh e = absurd (true≢false (sym e))
  node_closes D i ty at (choose_form cond consequent alternative) em fresh e = absurd (true≢false (sym e))
  node_closes D i ty at (build_form parts) em fresh e = absurd (true≢false (sym e))
  node_closes D i ty at (pick_form value parts) em fresh e = absurd (true≢false (sym e))
  node_closes D i ty at (call_form function args) em fresh e = absurd (true≢false (sym e))
  node_closes D i ty at (intrinsic_form number args) em fresh e = absurd (true≢false (sym e))
  node_closes D i ty at (method_form resource count address value) em fresh e = absurd (true≢false (sym e))
  node_closes D i ty at (atomic_form target kind compare value original) em fresh e = absurd (true≢false (sym e))

  pub node_emits : (D : ℕ → Type 0) (i : Instance) (ty : Ty) (at : ℕ) (form : Form) (em : Expr → Emitter) → i.first ≡ first → is_call_form form ≡ false → FormIn c D form →
      Every (λ e. Emits c V first stands f lane n known D e (em e)) (operand_exprs form) → Every (HasValue c) (operand_exprs form) →
      Emits c V first stands f lane n known D (an_expr ty at form) (node i ty at form (map em (operand_exprs form)))
  node_emits D i ty at form em is plain inside emits value = record {
    grows = λ fresh. all_grow c V first stands f lane n known D em (operand_exprs form) emits false fresh;
    names = λ fresh. all_names c V first stands f lane n known D em (operand_exprs form) emits false fresh;
    typed = λ fresh. refl;
    quiet = λ none fresh. all_quiet c V first stands f lane n known D em (operand_exprs form) emits none fresh;
    opens = λ fresh room. node_opens D i ty at form em is plain inside emits value fresh room;
    closes = λ fresh literal room. node_closes D i ty at form em fresh literal;
  }
