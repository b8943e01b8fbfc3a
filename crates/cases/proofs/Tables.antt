-- A table holds where it is empty, and where its first row holds and then the others do.
use mathlib.Core.Path.{◌≡◌}
use mathlib.Core.List.Memᴰ
use mathlib.Core.List.{List, [], ◌∷◌, Memᴰ}
use mathlib.Core.Logic.{◌⊎◌, inl, inr}
use Rattle.cases.specs.Rows.{Row, Holds, AllHold}

pub none : AllHold []
none = record { row = λ r m. absurd (Memᴰ.not-nil m) }

infixr 20 ◌then◌
pub ◌then◌ : {r : Row} {rs : List Row} → Holds r → AllHold rs → AllHold (r ∷ rs)
◌then◌ {r} {rs} first others = record { row = λ x m. go x (Memᴰ.cases_cons m) }
  where
    go : (x : Row) → (x ≡ r) ⊎ Memᴰ x rs → Holds x
    go x (inl e) = rw e first
    go x (inr m) = others.row x m
