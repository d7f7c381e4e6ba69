-- What memory means with nothing kept aside, and so what a plain drive means.
use Rattle.std.specs.Prelude.{◌≡◌, ℕ, List, length, vec_items}
use Rattle.drive.specs.Block.{whole, block}
use Rattle.drive.specs.Medium.{Visible, Durable, Medium, medium}
use Rattle.drive.specs.declared.drives.plain.Plain.{Plain}

abbrev pub bare_visible : List ℕ → Visible
bare_visible memory = record { count = whole (length memory); shown = block memory }

abbrev pub bare_durable : List ℕ → Durable
bare_durable memory = record { stands = λ b c. c ≡ block memory b; settled = λ b. Unit {0} }

abbrev pub bare : List ℕ → Medium
bare = medium bare_visible bare_durable

abbrev pub plain_visible : Plain → Visible
plain_visible d = bare_visible (vec_items d.memory)

abbrev pub plain_durable : Plain → Durable
plain_durable d = bare_durable (vec_items d.memory)

abbrev pub plain_medium : Plain → Medium
plain_medium = medium plain_visible plain_durable
