use Rattle.std.proofs.Common.{rules, refl, arith}
use Rattle.std.proofs.lemmas.Grind.{common_steps}
use Rattle.station.proofs.Serves.{serving_none, serving_more}
use Rattle.station.proofs.serving.serve.Goals as goal

pub loop-i-init : goal.loop-i-init
loop-i-init g c = record { asked = search rules; served = serving_none c.new-station.ensures.stands; untouched = refl }

pub loop-i-preserved : goal.loop-i-preserved
loop-i-preserved g c = record {
  asked = search rules;
  served = serving_more _ _ _ _ _ (search rules) (search rules) (search rules) c.ask.ensures c.loop-i.invariant.served;
  untouched = grind (arith, common_steps);
}
