use Rattle.std.proofs.Common.{rules, arith}
use Rattle.std.proofs.lemmas.Grind.{common_steps}
use Rattle.station_with_books.proofs.Serves.{serving_more}
use Rattle.station_with_books.proofs.serving.serve.Goals as goal

pub loop-i-preserved : goal.loop-i-preserved
loop-i-preserved g c = record {
  asked = search rules;
  served = serving_more g.K.Kind.lawful _ _ _ _ _ (search rules) (search rules) (search rules) c.ask.ensures c.loop-i.invariant.served;
  untouched = grind (arith, common_steps);
}
