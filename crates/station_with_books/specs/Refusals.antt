-- The numbers of refusals.
use Rattle.std.specs.Prelude.{ℕ}
use Rattle.station_with_books.specs.declared.answers.ShowRefusal.{ShowRefusal}
use Rattle.station_with_books.specs.declared.answers.ShowRefusal.TheVariants.{NoBook, TooShort}

-- Show: no book yet; the buffer is too short.
abbrev pub show_number : ShowRefusal → ℕ
show_number NoBook = 10
show_number TooShort = 15
