use Rattle.std.proofs.Common.{sym, ap, map}
use Rattle.hl_rules.specs.Expressions.{method_code}
use Rattle.hl_values.specs.ScopeViews.{plain_buffer}
use Rattle.hl_values.specs.Views.{plain_code}
use Rattle.hl_values.proofs.AtomicLemmas.{ok_along}
use Rattle.hl_values.proofs.methods.method_code.Goals as goal

pub returns-in-LoadsWords : goal.returns-in-LoadsWords
returns-in-LoadsWords c =
    ok_along c.loaded_words.result _ _ (c.loaded_words.ensures (plain_buffer c.args.call.buffer.now) c.args.call.first c.args.call.constant)
    (ap (λ m. method_code (plain_buffer c.args.call.buffer.now) c.args.call.at c.args.call.number m c.args.call.first c.args.call.constant (map plain_code c.args.codes.items)) (sym c.in-LoadsWords.is))

pub returns-in-StoresWords : goal.returns-in-StoresWords
returns-in-StoresWords c =
    ok_along c.stored_words.result _ _ (c.stored_words.ensures (plain_buffer c.args.call.buffer.now) c.args.call.first c.args.call.constant)
    (ap (λ m. method_code (plain_buffer c.args.call.buffer.now) c.args.call.at c.args.call.number m c.args.call.first c.args.call.constant (map plain_code c.args.codes.items)) (sym c.in-StoresWords.is))

pub returns-in-DoesAtomic : goal.returns-in-DoesAtomic
returns-in-DoesAtomic c =
    ok_along c.atomic_code.result _ _ (c.atomic_code.ensures (plain_buffer c.args.call.buffer.now) c.args.call.first c.args.call.constant)
    (ap (λ m. method_code (plain_buffer c.args.call.buffer.now) c.args.call.at c.args.call.number m c.args.call.first c.args.call.constant (map plain_code c.args.codes.items)) (sym c.in-DoesAtomic.is))
