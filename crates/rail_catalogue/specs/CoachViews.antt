-- A coach, as contracts see it.
use Rattle.place_map.specs.declared.coach.Coach.{Coach}
use Rattle.rail_catalogue.specs.Coaches.{CoachView}

abbrev pub coach_view : Coach → CoachView
coach_view c = record { number = c.number; class = c.class; groups = c.groups.items }
