-- Records in bytes, as document 01's section "Records" lays them out. They are written down here a second time: a
-- row of the table names no encoder of the calls.
use Rattle.std.specs.Prelude.{List, [], ◌∷◌, ◌++◌, ℕ}
use Rattle.sets.specs.Ascii.{ascii}

-- a number below 256 in 4 bytes, and a set of badges below 8 in 8 bytes, the lowest byte first
abbrev pub in4 : ℕ → List ℕ
in4 x = x ∷ 0 ∷ 0 ∷ 0 ∷ []

abbrev pub in8 : ℕ → List ℕ
in8 s = s ∷ 0 ∷ 0 ∷ 0 ∷ 0 ∷ 0 ∷ 0 ∷ 0 ∷ []

-- the records of a log: "BH | n, T", "CT | badge, badge, first tick, last tick", "ED | number of CT records, 4 bytes"
unfoldable pub BH : ℕ → ℕ → List ℕ
BH n T = ascii "BH" ++ n ∷ T ∷ []

unfoldable pub CT : ℕ → ℕ → ℕ → ℕ → List ℕ
CT a b first last = ascii "CT" ++ a ∷ b ∷ first ∷ last ∷ []

unfoldable pub ED : ℕ → List ℕ
ED count = ascii "ED" ++ in4 count

-- the records of a report: "RH (n, T), then GR records (order, first tick, last tick, members as an 8-byte set with bit u for badge u)"
unfoldable pub RH : ℕ → ℕ → List ℕ
RH n T = ascii "RH" ++ n ∷ T ∷ []

unfoldable pub GR : ℕ → ℕ → ℕ → ℕ → List ℕ
GR order first last members = ascii "GR" ++ order ∷ first ∷ last ∷ in8 members

-- the records of a plan: "PH (n, T, h, query as an 8-byte set), then h PT records laid out as GR with the part's score for the order"
unfoldable pub PH : ℕ → ℕ → ℕ → ℕ → List ℕ
PH n T h query = ascii "PH" ++ n ∷ T ∷ h ∷ in8 query

unfoldable pub PT : ℕ → ℕ → ℕ → ℕ → List ℕ
PT score first last members = ascii "PT" ++ score ∷ first ∷ last ∷ in8 members

-- those above 64 badges: "marks RW, GW, PW and QW replace RH, GR, PH and PT, with 16-byte sets", here by their bytes
unfoldable pub RW : ℕ → ℕ → List ℕ
RW n T = ascii "RW" ++ n ∷ T ∷ []

unfoldable pub GW : ℕ → ℕ → ℕ → List ℕ → List ℕ
GW order first last members = ascii "GW" ++ order ∷ first ∷ last ∷ members

unfoldable pub PW : ℕ → ℕ → ℕ → List ℕ → List ℕ
PW n T h query = ascii "PW" ++ n ∷ T ∷ h ∷ query

unfoldable pub QW : ℕ → ℕ → ℕ → List ℕ → List ℕ
QW score first last members = ascii "QW" ++ score ∷ first ∷ last ∷ members
