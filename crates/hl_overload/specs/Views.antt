-- The plain data of candidates.
use Rattle.std.specs.Prelude.{List, map}
use Rattle.hl_meaning.specs.declared.ty.HlType.{HlType}
use Rattle.hl_meaning.specs.Types.{Ty}
use Rattle.hl_meaning.specs.Views.{plain_ty}
use Rattle.hl_overload.specs.declared.choice.Param.{Param}
use Rattle.hl_overload.specs.declared.choice.Candidate.{Candidate}
use Rattle.hl_overload.specs.Choice as plain

abbrev pub plain_param : Param → plain.Param
plain_param p = record { ty = plain_ty p.ty; copying = p.copying }

abbrev pub plain_params : List Param → List plain.Param
plain_params params = map plain_param params

abbrev pub plain_candidates : List Candidate → List (List plain.Param)
plain_candidates candidates = map (λ c. plain_params c.params) candidates

abbrev pub plain_types : List HlType → List Ty
plain_types types = map plain_ty types
