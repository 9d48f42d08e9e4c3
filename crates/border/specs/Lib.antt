-- THE BORDER ALONE TELLS WHETHER A LAWFUL MESH IS PROPER: `clear-exact` in Exact. Clear says what is tested. The argument, in the order to read it:
-- 1. Of a point off all lines and keys: the arrows of a triangle under it come to 1 if it is inside and to 0 if not (Under); an arrow and its reverse cancel
--    (Cancel); so the border arrows under it come to the number of rows that it is inside (Count).
-- 2. Along a border arrow that no other meets the others count the same under all its points (Segment, Along, Alike, Beside). So the nearest border arrow below
--    a point decides: no row just right of it, and the point is inside one row or none (Least, Nearest).
-- 3. The tests of `clear` say just that of every border arrow (Meet, Keys, Quiet, ClearLaw).
-- 4. So no two rows share a point, for they would share one off all lines (Nudge). The rows round a node that no border arrow leaves cover all that is close to it
--    (Close, Fan), so that no other row comes there: no node is crowded (Corners, Crowd). That is `border-clear` in Safe.
-- 5. The other way: left of a border arrow lies one row more than right of it (Near, Sides, Bare), and rows whose sides cross share a point (Crossing, Unmet, Exact).
-- ClearMeshes and TestsNeeded compute the tests on meshes by hand; Signs, Places and Sums are the arithmetic.
-- A point is moved in two ways. Near goes any way, as near as need be: enough where some point is wanted. Nudge and Close name one point by numbers that serve
-- for all places in range: `fan-covers` is said of that point, whatever the mesh. Assumes nothing.
pub mod Signs
pub mod Places
pub mod Sums
pub mod Under
pub mod Cancel
pub mod Count
pub mod Clear
pub mod Keys
pub mod Segment
pub mod Along
pub mod Alike
pub mod Beside
pub mod Least
pub mod Nearest
pub mod Meet
pub mod Quiet
pub mod Nudge
pub mod Close
pub mod Fan
pub mod Corners
pub mod Crowd
pub mod Near
pub mod Sides
pub mod Bare
pub mod Crossing
pub mod ClearMeshes
pub mod TestsNeeded
