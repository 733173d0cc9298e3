-- Words choose one list of options, and ask for one command, at most.
use Rattle.std.proofs.Common.{◌≡◌, ℕ, List, refl, sym, ap, ◌∙◌}
use Rattle.std.specs.Prelude.{codes}
use Rattle.dxil_driver.specs.Commands.{Asks, a_compilation, a_check}
use Rattle.dxil_driver.specs.Options.{Chooses, nothing, a_target, an_entry, target_and_entry, entry_and_target, default_entry, name_of, options}
use Rattle.dxil_driver.specs.declared.command.Command.{Command}
use Rattle.dxil_driver.specs.declared.command.Command.TheVariants.{Compile}
use Rattle.dxil_driver.specs.declared.options.Options.{Options}
use Rattle.dxil_driver.specs.declared.options.Target.{Target}
use Rattle.dxil_driver.specs.declared.options.Target.TheVariants.{Cs60}

pub same_target : (one other : Target) → name_of one ≡ name_of other → one ≡ other
same_target Cs60 Cs60 same = refl

pub other_option : (option : List ℕ) → option ≡ codes "--target" → option ≡ codes "--entry" → ⊥
other_option option target entry = cc

other_command : (word : List ℕ) → word ≡ codes "compile" → word ≡ codes "check" → ⊥
other_command word compile check = cc

pub chosen_once : (words : List (List ℕ)) (one other : Options) → Chooses words one → Chooses words other → one ≡ other
chosen_once _ _ _ nothing nothing = refl
chosen_once _ _ _ (a_target option value target t) (a_target _ _ other u) = ap (options default_entry) (same_target target other (sym t.1 ∙ u.1))
chosen_once _ _ _ (a_target option value target t) (an_entry _ _ e) = absurd (other_option option t.0 e.0)
chosen_once _ _ _ (an_entry option value e) (a_target _ _ target t) = absurd (other_option option t.0 e.0)
chosen_once _ _ _ (an_entry option value e) (an_entry _ _ f) = refl
chosen_once _ _ _ (target_and_entry a b c d target t e) (target_and_entry _ _ _ _ other u f) = ap (options d) (same_target target other (sym t.1 ∙ u.1))
chosen_once _ _ _ (target_and_entry a b c d target t e) (entry_and_target _ _ _ _ other f u) = absurd (other_option a t.0 f.0)
chosen_once _ _ _ (entry_and_target a b c d target e t) (target_and_entry _ _ _ _ other u f) = absurd (other_option a u.0 e.0)
chosen_once _ _ _ (entry_and_target a b c d target e t) (entry_and_target _ _ _ _ other f u) = ap (options b) (same_target target other (sym t.1 ∙ u.1))

-- words ask for at most one command
pub same_command : (words : List (List ℕ)) (one other : Command) → Asks words one → Asks words other → one ≡ other
same_command _ _ _ (a_compilation word words one c chosen) (a_compilation _ _ other d also) = ap Compile (chosen_once words one other chosen also)
same_command _ _ _ (a_compilation word words one c chosen) (a_check _ k) = absurd (other_command word c k)
same_command _ _ _ (a_check word k) (a_compilation _ words other c chosen) = absurd (other_command word c k)
same_command _ _ _ (a_check word k) (a_check _ l) = refl
