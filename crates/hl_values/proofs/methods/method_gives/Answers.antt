use Rattle.std.proofs.Common.{◌∙◌, sym, ap, Some}
use Rattle.hl_meaning.proofs.Plain.{plain_ty-Void}
use Rattle.hl_rules.specs.Values.{method_gives}
use Rattle.hl_values.specs.ScopeViews.{plain_buffer}
use Rattle.hl_values.proofs.methods.method_gives.Goals as goal

pub returns-in-StoresWords : goal.returns-in-StoresWords
returns-in-StoresWords c = ap Some plain_ty-Void ∙ sym (ap (method_gives (plain_buffer c.args.buffer.now)) c.in-StoresWords.is)

pub returns-in-DoesAtomic : goal.returns-in-DoesAtomic
returns-in-DoesAtomic c = ap Some plain_ty-Void ∙ sym (ap (method_gives (plain_buffer c.args.buffer.now)) c.in-DoesAtomic.is)
