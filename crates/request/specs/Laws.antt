-- Statements that module `laws` proves. A command line has at most one request, and is accepted
-- if it has one. Eleven examples of command lines have the meaning given here.
-- Public.
use Rattle.std.specs.Prelude.{◌≡◌, true, false, List, [], ◌∷◌, Vec, codes}
use Rattle.std.specs.declared.alloc.Global.{Global}
use Rattle.clap.specs.Words.{Text}
use Rattle.clap.specs.Faults.{fault_of}
use Rattle.clap.specs.declared.error.kind.ErrorKind.TheVariants.{DisplayVersion}
use Rattle.terrain.specs.declared.observer.Observer.{Observer}
use Rattle.terrain.specs.declared.place.Place.{Place}
use Rattle.request.specs.CommandLine.{AreRefused, AskForHelp, RequestFor, program_app}
use Rattle.request.specs.Request.{Request}
use Rattle.request.specs.declared.map.DrainageMap.{DrainageMap}
use Rattle.request.specs.declared.map.DrainageMap.TheVariants as drainage
use Rattle.request.specs.declared.map.Map.{Map}
use Rattle.request.specs.declared.map.Map.TheVariants.{Fill, Basins, Catchments, View, Rise, Several}

-- Two maps have the same kind. Two maps of catchments also have the same gauges, two viewsheds the
-- same observers, target and radius, two rises the same observers and radius, and two lists of maps
-- the same maps in order and gauges.
abbrev pub AreSame : Map → Map → Type 0
AreSame (View observers target radius) (View others height reach) =
    (observers.items ≡ others.items) × (target ≡ height) × (radius ≡ reach)
AreSame (Rise observers radius) (Rise others reach) =
    (observers.items ≡ others.items) × (radius ≡ reach)
AreSame (Catchments gauges) (Catchments others) = gauges.items ≡ others.items
AreSame (Several maps gauges) (Several others places) =
    (maps.items ≡ others.items) × (gauges.items ≡ places.items)
AreSame map other = map ≡ other

-- Two requests of one command line have the same map, options and sinks.
abbrev pub RequestsAreOne : Type 0
RequestsAreOne = (words : List Text) (request other : Request) → RequestFor words request →
    RequestFor words other →
    AreSame request.map other.map × (request.tile ≡ other.tile) × (request.workers ≡ other.workers)
    × (request.scale ≡ other.scale) × (request.sinks ≡ other.sinks)
    × (request.progress ≡ other.progress)

-- Words with a request neither ask for help nor are refused.
abbrev pub RequestsAreAccepted : Type 0
RequestsAreAccepted = (words : List Text) (request : Request) → RequestFor words request →
    ¬ AskForHelp words × ¬ AreRefused words

-- `relief fill` requests filled heights with the default options.
abbrev pub FillAlone : Type 0
FillAlone = RequestFor (codes "relief" ∷ codes "fill" ∷ [])
    (record { map = Fill; tile = 256; workers = 1; scale = 0; sinks = []; progress = false })

-- `relief basins 1,2 0,3` requests basins with two sinks.
abbrev pub BasinsOfSinks : Type 0
BasinsOfSinks = RequestFor (codes "relief" ∷ codes "basins" ∷ codes "1,2" ∷ codes "0,3" ∷ [])
    (record {
      map = Basins;
      tile = 256;
      workers = 1;
      scale = 0;
      sinks = record { row = 1; col = 2 } ∷ record { row = 0; col = 3 } ∷ [];
      progress = false;
    })

-- `relief basins --sink 0,3 1,2` requests basins with two sinks, that of the word first.
abbrev pub SinkOfAnOption : Type 0
SinkOfAnOption = RequestFor
    (codes "relief" ∷ codes "basins" ∷ codes "--sink" ∷ codes "0,3" ∷ codes "1,2" ∷ [])
    (record {
      map = Basins;
      tile = 256;
      workers = 1;
      scale = 0;
      sinks = record { row = 1; col = 2 } ∷ record { row = 0; col = 3 } ∷ [];
      progress = false;
    })

-- `relief catchments --progress --sink 1,2 --sink 0,3 4,5` names two sinks and one gauge.
abbrev pub CatchmentsOfAGauge : Type 0
CatchmentsOfAGauge = (gauges : Vec Place Global) → gauges.items ≡ record { row = 4; col = 5 } ∷ [] →
    RequestFor (codes "relief" ∷ codes "catchments" ∷ codes "--progress" ∷ codes "--sink"
    ∷ codes "1,2"
    ∷ codes "--sink" ∷ codes "0,3" ∷ codes "4,5" ∷ [])
    (record {
      map = Catchments gauges;
      tile = 256;
      workers = 1;
      scale = 0;
      sinks = record { row = 1; col = 2 } ∷ record { row = 0; col = 3 } ∷ [];
      progress = true;
    })

-- `relief maps --gauge 4,5 flow catchments` requests these two maps in this order, with one gauge.
abbrev pub MapsInOrder : Type 0
MapsInOrder = (maps : Vec DrainageMap Global) (gauges : Vec Place Global) →
    maps.items ≡ drainage.Flow ∷ drainage.Catchments ∷ [] →
    gauges.items ≡ record { row = 4; col = 5 } ∷ [] →
    RequestFor (codes "relief" ∷ codes "maps" ∷ codes "--gauge" ∷ codes "4,5" ∷ codes "flow"
    ∷ codes "catchments" ∷ [])
    (record {
      map = Several maps gauges;
      tile = 256;
      workers = 1;
      scale = 0;
      sinks = [];
      progress = false;
    })

-- `relief view --radius 5 1,2,3` requests the viewshed of one observer, within 5 cells.
abbrev pub ViewWithRadius : Type 0
ViewWithRadius = (observers : Vec Observer Global) →
    observers.items ≡ record { row = 1; col = 2; eye = 3 } ∷ [] →
    RequestFor (codes "relief" ∷ codes "view" ∷ codes "--radius" ∷ codes "5" ∷ codes "1,2,3" ∷ [])
    (record {
      map = View observers 0 5;
      tile = 256;
      workers = 1;
      scale = 0;
      sinks = [];
      progress = false;
    })

-- `relief rise --radius 5 1,2,3` requests the rise of one observer, within 5 cells.
abbrev pub RiseWithRadius : Type 0
RiseWithRadius = (observers : Vec Observer Global) →
    observers.items ≡ record { row = 1; col = 2; eye = 3 } ∷ [] →
    RequestFor (codes "relief" ∷ codes "rise" ∷ codes "--radius" ∷ codes "5" ∷ codes "1,2,3" ∷ [])
    (record {
      map = Rise observers 5;
      tile = 256;
      workers = 1;
      scale = 0;
      sinks = [];
      progress = false;
    })

-- `relief rise --target 1 1,2,3` is refused: a rise takes no target height.
abbrev pub NoTargetOfARise : Type 0
NoTargetOfARise = AreRefused
    (codes "relief" ∷ codes "rise" ∷ codes "--target" ∷ codes "1" ∷ codes "1,2,3" ∷ [])

-- `relief fill --tile 0` is refused.
abbrev pub NoSideOfZero : Type 0
NoSideOfZero = AreRefused (codes "relief" ∷ codes "fill" ∷ codes "--tile" ∷ codes "0" ∷ [])

-- `relief view --help` asks for help.
abbrev pub HelpOfView : Type 0
HelpOfView = AskForHelp (codes "relief" ∷ codes "view" ∷ codes "--help" ∷ [])

-- `relief --version` asks for the version, which counts as help.
abbrev pub VersionAlone : Type 0
VersionAlone =
    (fault_of program_app (codes "relief" ∷ codes "--version" ∷ []) ≡ DisplayVersion ∷ [])
    × AskForHelp (codes "relief" ∷ codes "--version" ∷ [])
