-- How words and marks are spelled. Their numbers are their places in these lists, from 0.
use Rattle.std.specs.Prelude.{ℕ, List, [], ◌∷◌, codes}

-- the words that are no names
abbrev pub words : List (List ℕ)
words =
    codes "void" ∷ codes "bool" ∷ codes "int" ∷ codes "uint"
    ∷ codes "bool2" ∷ codes "bool3" ∷ codes "bool4"
    ∷ codes "int2" ∷ codes "int3" ∷ codes "int4"
    ∷ codes "uint2" ∷ codes "uint3" ∷ codes "uint4"
    ∷ codes "struct" ∷ codes "static" ∷ codes "const" ∷ codes "groupshared"
    ∷ codes "in" ∷ codes "out" ∷ codes "inout"
    ∷ codes "if" ∷ codes "else" ∷ codes "for" ∷ codes "while" ∷ codes "do"
    ∷ codes "break" ∷ codes "continue" ∷ codes "return"
    ∷ codes "true" ∷ codes "false" ∷ codes "register"
    ∷ codes "ByteAddressBuffer" ∷ codes "RWByteAddressBuffer"
    ∷ codes "StructuredBuffer" ∷ codes "RWStructuredBuffer"
    ∷ []

-- the marks
abbrev pub marks : List (List ℕ)
marks =
    codes "(" ∷ codes ")" ∷ codes "{" ∷ codes "}" ∷ codes "[" ∷ codes "]"
    ∷ codes ";" ∷ codes "," ∷ codes "." ∷ codes ":" ∷ codes "?"
    ∷ codes "=" ∷ codes "+" ∷ codes "-" ∷ codes "*" ∷ codes "/" ∷ codes "%"
    ∷ codes "<" ∷ codes ">" ∷ codes "!" ∷ codes "~" ∷ codes "&" ∷ codes "|" ∷ codes "^"
    ∷ codes "&&" ∷ codes "||" ∷ codes "==" ∷ codes "!=" ∷ codes "<=" ∷ codes ">=" ∷ codes "<<" ∷ codes ">>"
    ∷ codes "+=" ∷ codes "-=" ∷ codes "*=" ∷ codes "/=" ∷ codes "%=" ∷ codes "&=" ∷ codes "|=" ∷ codes "^="
    ∷ codes "<<=" ∷ codes ">>=" ∷ codes "++" ∷ codes "--"
    ∷ []
