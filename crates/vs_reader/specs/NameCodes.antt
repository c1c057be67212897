-- How lists of names are stored, so that a proof can tell them apart.
use Rattle.std.specs.Prelude.{List, refl}
use Rattle.std.specs.Coded.{Coded, code_by, coded×, coded_ℕ, coded_list}
use Rattle.vs_reader.specs.Rows.{Field}
use Rattle.vs_reader.specs.Names.{NameLists}

abbrev pub coded_field : Coded Field
coded_field = coded_list coded_ℕ

abbrev pub coded_names : Coded NameLists
coded_names = code_by (List Field × (List Field × List Field))
    (coded× (coded_list coded_field) (coded× (coded_list coded_field) (coded_list coded_field)))
    (λ n. (n.stops, (n.layers, n.trips))) (λ c. record { stops = c.0; layers = c.1.0; trips = c.1.1 }) (λ _. refl)
