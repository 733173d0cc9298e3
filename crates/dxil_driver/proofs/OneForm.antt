-- A text has at most one first form, since it has at most one tree, and that at most one program.
use Rattle.std.proofs.Common.{◌≡◌, ◌∙◌, sym, ap, subst, List}
use Rattle.std.proofs.lemmas.Option.{same_Some}
use Rattle.hl_lexer.specs.Laws.{AtMostOneTokenList}
use Rattle.hl_lexer.specs.Tokens.{Lexeme}
use Rattle.hl_parser.specs.Grammar.{SpellsProgram}
use Rattle.hl_parser.specs.Laws.{AtMostOneTree}
use Rattle.hl_parser.specs.Trees.{Tree}
use Rattle.hl_rules.specs.Elaboration.{Elaborates}
use Rattle.hl_rules.specs.Laws.{AtMostOneProgram}
use Rattle.hl_rules.specs.Source.{terminals_of}
use Rattle.dxil_driver.specs.FirstForm.{AtMostOneFirstForm, form_of}

pub one_form : AtMostOneTokenList → AtMostOneTree → AtMostOneProgram → AtMostOneFirstForm
one_form lists trees programs text entry one other a b =
    let tokens : b.tokens ≡ a.tokens = (lists text b.tokens a.tokens b.has.end a.has.end b.has.lexed.list a.has.lexed.list).0 in
    let spelled : SpellsProgram (terminals_of a.tokens) b.tree = subst (λ (ts : List Lexeme). SpellsProgram (terminals_of ts) b.tree) tokens b.has.tree-is.spelled in
    let tree : b.tree ≡ a.tree = trees (terminals_of a.tokens) b.tree a.tree spelled a.has.tree-is.spelled in
    let with_tokens : Elaborates b.tree a.tokens entry b.program = subst (λ (ts : List Lexeme). Elaborates b.tree ts entry b.program) tokens b.elaborated in
    let elaborated : Elaborates a.tree a.tokens entry b.program = subst (λ (t : Tree). Elaborates t a.tokens entry b.program) tree with_tokens in
    let program : a.program ≡ b.program = programs a.tree a.tokens entry a.program b.program a.elaborated elaborated in
    same_Some one other (sym a.is_form ∙ (ap form_of program ∙ b.is_form))
