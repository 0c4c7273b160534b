-- inner
-- How the value of a machine is stored: as the tuple of its parts. This project's own profile.
use Rattle.std.specs.{Prelude.{ℕ, List, refl}, Coded.{Coded, code_by, coded×, coded_ℕ, coded_list}}
use Rattle.perf_world.specs.Codes.{world_code}
use Rattle.sample_ring.specs.{RingLists.{OutList}, contracts.rings.Outs.{the_row as outs_row}}
use Rattle.world_spec.specs.Value.{World}
use Rattle.machine.specs.Leading.{Kept}

abbrev pub kept_code : Coded Kept
kept_code =
    code_by (List ℕ × (List ℕ × (World × OutList))) (coded× (coded_list coded_ℕ) (coded× (coded_list coded_ℕ) (coded× world_code outs_row.coded)))
    (λ m. (m.cpus, (m.tools, (m.world, m.outs)))) (λ p. record { cpus = p.0; tools = p.1.0; world = p.1.1.0; outs = p.1.1.1 }) (λ _. refl)
