-- Quoted text in bytes.
use Rattle.std.specs.Prelude.{List, [], ◌∷◌, ℕ}
use Prim.Native.Char.{code}
use Prim.Native.String.{String, [] as empty, ◌∷◌ as ◌then◌}

-- the codes of a text's characters, which are its bytes where all of them are ASCII
abbrev pub ascii : String → List ℕ
ascii empty = []
ascii (c then cs) = code c ∷ ascii cs
