-- What a request is printed as.
use Rattle.std.specs.Prelude.{ℕ, List, codes}
use Rattle.station.specs.declared.request.Request.{Request}
use Rattle.station.specs.declared.request.Request.TheVariants.{Bill, Settle}

abbrev pub printed : Request → List ℕ
printed Bill = codes "bill"
printed Settle = codes "settle"
