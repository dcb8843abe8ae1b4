-- Who awaits may, each stands where it may in its line, and nobody waits in a circle.
use mathlib.Core.Path.{ap₂}
use mathlib.Core.Bool.{◌&&◌}
use Rattle.waiting.proofs.Rounds.{links_slots, links_waiting, circle-same}
use Rattle.waiting.proofs.waits_pass.Goals as goal

pub no_circle-free-requires : goal.no_circle-free-requires
no_circle-free-requires c = let a = c.args in
    let w = c.waits-ok.ensures.1 in
    (links_slots _ _ _ w, links_waiting _ _ _ w c.requires.0 a.waiting c.requires.1)

pub ranks_ok-requires : goal.ranks_ok-requires
ranks_ok-requires c = let o = c.requires.0 in
    record { txns_exact = o.txns_exact; locks_exact = o.locks_exact; item_known = o.item_known }

pub returns : goal.returns
returns c = let w = c.waits-ok.ensures in
    ap₂ ◌&&◌ w.0 (ap₂ ◌&&◌ c.ranks_ok.ensures (circle-same _ _ _ w.1 c.requires.0 c.no_circle-free.result c.no_circle-free.ensures))
