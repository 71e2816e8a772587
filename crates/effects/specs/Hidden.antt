-- Document 01, 'Core and memory': 'the hidden registers IR, RA, RB, RALU', one part at a time: no other definition writes them out.
use Rattle.std.specs.Prelude.{ℕ}
use Rattle.effects.specs.declared.Hidden.{Hidden}

-- 'zero everywhere'
abbrev pub no_hidden : Hidden
no_hidden = record { ir = 0; ra = 0; rb = 0; ralu = 0 }

-- 'IR takes ..', 'RA takes ..; RB takes ..', 'RALU takes ..'
abbrev pub with_ir : ℕ → Hidden → Hidden
with_ir w h = record { ir = w; ra = h.ra; rb = h.rb; ralu = h.ralu }

abbrev pub with_ra_rb : ℕ → ℕ → Hidden → Hidden
with_ra_rb RA RB h = record { ir = h.ir; ra = RA; rb = RB; ralu = h.ralu }

abbrev pub with_ralu : ℕ → Hidden → Hidden
with_ralu v h = record { ir = h.ir; ra = h.ra; rb = h.rb; ralu = v }
