-- Which files imports name, worked out.
use Rattle.std.proofs.Common.{◌≡◌, codes, refl}
use Rattle.elab_scopes.specs.Imports.{segments, tidied, imported_path}

-- a file beside the one that imports it
beside : imported_path (codes "t.fut") (codes "a") ≡ codes "a.fut"
unfolding imported_path segments tidied
beside = refl

in_its_folder : imported_path (codes "lib/v.fut") (codes "w") ≡ codes "lib/w.fut"
unfolding imported_path segments tidied
in_its_folder = refl

in_a_folder : imported_path (codes "t.fut") (codes "lib/v") ≡ codes "lib/v.fut"
unfolding imported_path segments tidied
in_a_folder = refl

-- `.` is left out, also of the path of the file that imports
without_points : imported_path (codes "./t.fut") (codes "./a/./b") ≡ codes "a/b.fut"
unfolding imported_path segments tidied
without_points = refl

-- `..` leaves a folder, and stays where there is none
upwards_once : imported_path (codes "lib/v.fut") (codes "../w") ≡ codes "w.fut"
unfolding imported_path segments tidied
upwards_once = refl

upwards_out : imported_path (codes "lib/v.fut") (codes "../../w") ≡ codes "../w.fut"
unfolding imported_path segments tidied
upwards_out = refl

from_outside : imported_path (codes "../w.fut") (codes "../x") ≡ codes "../../x.fut"
unfolding imported_path segments tidied
from_outside = refl

-- from the root of all folders none leads upwards
from_the_root : imported_path (codes "/v.fut") (codes "../w") ≡ codes "/../w.fut"
unfolding imported_path segments tidied
from_the_root = refl
