-- Signatures without arguments.
use Rattle.std.proofs.Common.{◌≡◌, refl, List, [], ◌∷◌}
use Rattle.hl_meaning.specs.declared.intrinsic.Signature.TheVariants.{Barrier}
use Rattle.hl_meaning.specs.Types.{Ty, void_type}
use Rattle.hl_rules.specs.Intrinsics.{passed}
use Rattle.hl_values.specs.Intrinsics.{nothing_passed}

pub nothing-Barrier : (args : List Ty) → passed Barrier args ≡ nothing_passed void_type args
nothing-Barrier [] = refl
nothing-Barrier (x ∷ args) = refl
