-- The words that name a layer.
use Rattle.std.specs.Prelude.{◌≢◌, ℕ, List, [], ◌∷◌, codes}
use Rattle.bench_layers.specs.declared.layer.Layer.{Layer}
use Rattle.bench_layers.specs.declared.layer.Layer.TheVariants.{Elaborate, Inline, Lex, Parse, Sizes}

abbrev pub words_of : Layer → List (List ℕ)
words_of Lex = codes "lex" ∷ []
words_of Parse = codes "parse" ∷ []
words_of Elaborate = codes "elaborate" ∷ []
words_of Sizes = codes "sizes" ∷ []
words_of Inline = codes "inline" ∷ []

-- the words name no layer
abbrev pub IsNoLayer : List (List ℕ) → Type 0
IsNoLayer words = (layer : Layer) → words ≢ words_of layer
