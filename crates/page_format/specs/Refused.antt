-- Why a page is refused: the first of its sum, its number and its shape that is wrong.
use Rattle.std.specs.Prelude.{◌≡◌, ◌≢◌, ℕ, List, take, drop, ◌⊎◌}
use Rattle.std.specs.Int.{w64, from_be_bytes}
use Rattle.sum64.specs.Fnv.{fnv_of}
use Rattle.store_api.specs.Areas.{PassesSum}
use Rattle.page_format.specs.declared.read.PageBad.{PageBad}
use Rattle.page_format.specs.declared.read.PageBad.TheVariants.{Sum, Number, Shape}
use Rattle.stored_pages.specs.Words.{number_of}
use Rattle.page_format.specs.Shape.{HasFields, HasOrder}

-- the rule that a page's shape breaks: 1 of its fields, 2 of the order of its records and fences
abbrev pub BreaksRule : ℕ → List ℕ → Type 0
BreaksRule rule bytes = ((rule ≡ 1) × (HasFields bytes → ⊥)) ⊎ ((rule ≡ 2) × HasFields bytes × (HasOrder bytes → ⊥))

abbrev pub IsRefused : ℕ → List ℕ → PageBad → Type 0
IsRefused number bytes (Sum stored computed) = (stored ≡ from_be_bytes w64 (take 8 bytes)) × (computed ≡ fnv_of (drop 8 bytes)) × (stored ≢ computed)
IsRefused number bytes (Number found) = PassesSum bytes × (found ≡ number_of bytes) × (found ≢ number)
IsRefused number bytes (Shape rule) = PassesSum bytes × (number_of bytes ≡ number) × BreaksRule rule bytes
