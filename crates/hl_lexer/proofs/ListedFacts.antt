-- Each form of a token has a terminal.
use Rattle.std.proofs.Common.{◌≡◌, ◌≢◌, ◌∙◌, refl, sym, ap, Bool, true, false, slice_index_or}
use Rattle.std.proofs.lemmas.Bool.{agree_below_at}
use Rattle.hl_lexer.specs.declared.terminal.Terminal.{Terminal}
use Rattle.hl_lexer.specs.declared.terminal.Terminal.TheVariants.{Unlisted}
use Rattle.hl_lexer.specs.declared.token.TokenKind.TheVariants as kinds
use Rattle.hl_lexer.specs.Laws.{FormsAreListed}
use Rattle.hl_lexer.specs.Terminals.{mark_terminals, word_terminals}
use Rattle.hl_lexer.proofs.MarkFacts.{mark_below}
use Rattle.hl_lexer.proofs.TableFacts.{word_within}

abbrev is_listed : Terminal → Bool
is_listed Unlisted = false
is_listed other = true

listed : (terminal : Terminal) → is_listed terminal ≡ true → terminal ≢ Unlisted
listed terminal h e = let no : true ≡ false = sym h ∙ ap is_listed e in cc

pub forms_are_listed : FormsAreListed
forms_are_listed kinds.Name bytes after form e = cc
forms_are_listed (kinds.Number value unsigned) bytes after form e = cc
forms_are_listed (kinds.Word number) bytes after form e =
    listed (slice_index_or word_terminals number Unlisted)
    (agree_below_at (λ n. is_listed (slice_index_or word_terminals n Unlisted)) (λ n. true) 35 number refl (word_within number bytes form)) e
forms_are_listed (kinds.Mark number) bytes after form e =
    listed (slice_index_or mark_terminals number Unlisted)
    (agree_below_at (λ n. is_listed (slice_index_or mark_terminals n Unlisted)) (λ n. true) 44 number refl (mark_below number bytes form)) e
