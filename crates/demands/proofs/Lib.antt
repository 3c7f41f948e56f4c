pub mod SeriesLaws
pub mod RoomLaws
pub mod ClearLaws
pub mod WatchedLaws
pub mod CallerLaws
