-- The theorem on load order.
use mathlib.Core.List.{[]}
use mathlib.Core.Bool.{true, false}
use Rattle.methods.specs.Reloading.{reload}
use Rattle.methods.specs.Gmw81.{mod_cholesky_gmw81}
use Rattle.methods.specs.Gmw81 as gmw
use Rattle.methods.specs.Se.{mod_cholesky_se}
use Rattle.methods.specs.Se as ses
use Rattle.methods.specs.Factor.{factor}
use Rattle.methods.specs.declared.method.Method.TheVariants.{Gmw81, Se}
use Rattle.methods.proofs.LoadOrders.{order, position}
use Rattle.methods.proofs.Loaded.{loaded}
use Rattle.load_order.specs.LoadOrder.{LoadOrderTheorem}
use Rattle.load_order.proofs.Picks.{without_numbers}
use Rattle.load_order.proofs.Ends.{ended_alike}
use Rattle.load_order.proofs.Se as se-end
use Rattle.load_order.proofs.Gmw81 as gmw-end

pub load_order : LoadOrderTheorem
unfolding factor mod_cholesky_gmw81 mod_cholesky_se
load_order Gmw81 t n a s A L =
    ended_alike n s (gmw-end.end_of (gmw.run [] n a)) (gmw-end.end_of (gmw.run [] n (reload n s a))) L (gmw-end.gmw81-ended n s (position n s) a (reload n s a) (loaded n a s A L) Unit [] [] (without_numbers true n (order s)))
load_order (Se v) t n a s A L =
    ended_alike n s (se-end.end_of n (ses.run v t [] n a)) (se-end.end_of n (ses.run v t [] n (reload n s a))) L (se-end.se_ended v t n s (position n s) a (reload n s a) (loaded n a s A L) Unit [] [] (without_numbers false n (order s)))
