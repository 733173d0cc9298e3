-- A text has at most one list of lines for a request, since it has at most one tree, and that at most one program.
use Rattle.std.proofs.Common.{◌≡◌, ◌∙◌, sym, ap, subst, List}
use Rattle.std.proofs.lemmas.Option.{same_Some}
use Rattle.hl_lexer.specs.Laws.{AtMostOneTokenList}
use Rattle.hl_lexer.specs.Tokens.{Lexeme}
use Rattle.hl_parser.specs.Grammar.{SpellsProgram}
use Rattle.hl_parser.specs.Laws.{AtMostOneTree}
use Rattle.hl_parser.specs.Trees.{Tree}
use Rattle.hl_meaning.specs.Programs.{Program}
use Rattle.hl_source.specs.SourceLane.{source_lane}
use Rattle.hl_interpreter.specs.Runs.{lane_of}
use Rattle.hl_rules.specs.Elaboration.{Elaborates}
use Rattle.hl_rules.specs.Laws.{AtMostOneProgram}
use Rattle.hl_rules.specs.Source.{terminals_of}
use Rattle.trace_driver.specs.Laws.{AtMostOneTrace}
use Rattle.trace_driver.specs.Lines.{run_lines}

pub one_trace : AtMostOneTokenList → AtMostOneTree → AtMostOneProgram → AtMostOneTrace
one_trace lists trees programs request text one other a b =
    let h = a.is_program in
    let k = b.is_program in
    let tokens : k.tokens ≡ h.tokens = (lists text k.tokens h.tokens k.end h.end k.lexed.list h.lexed.list).0 in
    let spelled : SpellsProgram (terminals_of h.tokens) k.spelled.tree = subst (λ (ts : List Lexeme). SpellsProgram (terminals_of ts) k.spelled.tree) tokens k.spelled.tree-is.spelled in
    let tree : k.spelled.tree ≡ h.spelled.tree = trees (terminals_of h.tokens) k.spelled.tree h.spelled.tree spelled h.spelled.tree-is.spelled in
    let with_tokens : Elaborates k.spelled.tree h.tokens request.entry b.program = subst (λ (ts : List Lexeme). Elaborates k.spelled.tree ts request.entry b.program) tokens k.spelled.elaborated in
    let elaborated : Elaborates h.spelled.tree h.tokens request.entry b.program = subst (λ (t : Tree). Elaborates t h.tokens request.entry b.program) tree with_tokens in
    let program : a.program ≡ b.program = programs h.spelled.tree h.tokens request.entry a.program b.program h.spelled.elaborated elaborated in
    let run : a.run ≡ b.run = same_Some a.run b.run (sym a.is_run ∙ (ap (λ (p : Program). source_lane p request.turns (lane_of request.lane) request.replies) program ∙ b.is_run)) in
    a.lines ∙ (ap run_lines run ∙ sym b.lines)
