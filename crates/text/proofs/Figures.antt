-- Figures of written text, by computation.
--   figure_list == numbers are joined by commas, and no comma stands after the last
use mathlib.Core.Path.{◌≡◌, refl}
use mathlib.Core.List.{[], ◌∷◌}
use Rattle.text.specs.Decimal.{digits_of, decimal}
use Rattle.text.specs.KeyLine.{commaed, joined}

-- 0,10,127
pub figure_list : joined (0 ∷ 10 ∷ 127 ∷ []) ≡ 48 ∷ 44 ∷ 49 ∷ 48 ∷ 44 ∷ 49 ∷ 50 ∷ 55 ∷ []
unfolding digits_of decimal commaed joined
figure_list = refl
