-- The sheets of a table in their order: the last field moves fastest. Assumes nothing.
use Rattle.std.specs.Prelude.{ℕ, ◌+◌, ◌*◌, Bool, true, ◌&&◌, List, [], ◌∷◌, ◌++◌, nat_le}
use Rattle.belief.specs.Sheets.{over_sheets}

-- the weights of all sheets within the tops, the last field moving fastest
abbrev pub in_order : List ℕ → (List ℕ → ℕ) → List ℕ
in_order tops weight = over_sheets ◌++◌ tops (λ s. weight s ∷ [])

-- how many sheets there are
unfoldable pub size_of : List ℕ → ℕ
size_of [] = 1
size_of (t ∷ ts) = (t + 1) * size_of ts

-- how many sheets come before a sheet
unfoldable pub place_of : List ℕ → List ℕ → ℕ
place_of [] s = 0
place_of (t ∷ ts) [] = 0
place_of (t ∷ ts) (v ∷ s) = v * size_of ts + place_of ts s

-- whether no value lies above its top
unfoldable pub fits_in : List ℕ → List ℕ → Bool
fits_in [] s = true
fits_in (t ∷ ts) [] = true
fits_in (t ∷ ts) (v ∷ s) = nat_le v t && fits_in ts s
